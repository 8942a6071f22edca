use Rattle.std.proofs.Common.{All, take}
use Rattle.publisher_desk.specs.Seats.{IsForwardSeat, IsTimedSeat}
use Rattle.senders.specs.Gathering.{IsRisingSeat}
use Rattle.senders.proofs.numbering.are_rising.Given as goal

abbrev pub invariant-loop-seat : goal.invariant-loop-seat
invariant-loop-seat g l = All (IsRisingSeat l.high) (take l.seat-index l.seats)
    × All IsForwardSeat (take l.seat-index l.seats) × All IsTimedSeat (take l.seat-index l.seats)

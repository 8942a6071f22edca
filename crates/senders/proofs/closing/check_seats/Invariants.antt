use Rattle.std.proofs.Common.{◌≡◌, All, take}
use Rattle.publisher_desk.specs.Seats.{SeatOf}
use Rattle.publisher_desk.specs.SlotSights.{BeginsWith}
use Rattle.senders.proofs.closing.check_seats.Given as goal

abbrev pub invariant-loop-place : goal.invariant-loop-place
invariant-loop-place g l = (l.seats ≡ l.fn.seats) × (l.closing ≡ l.fn.closing)
    × All (λ (seat : SeatOf). BeginsWith l.fn.closing.events seat.events) (take l.place l.fn.seats)

use Rattle.std.proofs.Common.{◌≡◌, ◌++◌, Bor, drop, map}
use Rattle.publisher_desk.specs.declared.note.Reading.{Reading}
use Rattle.senders.specs.Gathering.{all_readings}
use Rattle.senders.proofs.gathering.readings_of.Given as goal

abbrev pub invariant-loop-seat : goal.invariant-loop-seat
invariant-loop-seat g l =
    map (λ (one : Bor Reading). one.now) l.readings.items ++ all_readings (drop l.seat-index l.seats)
    ≡ all_readings l.seats

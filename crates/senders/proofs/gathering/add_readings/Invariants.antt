use Rattle.std.proofs.Common.{◌≡◌, ◌++◌, Bor, drop, map}
use Rattle.publisher_desk.specs.declared.note.Reading.{Reading}
use Rattle.senders.specs.Gathering.{readings_in}
use Rattle.senders.proofs.gathering.add_readings.Given as goal

abbrev pub invariant-loop-note : goal.invariant-loop-note
invariant-loop-note l =
    map (λ (one : Bor Reading). one.now) l.readings.items ++ readings_in (drop l.note-index l.notes)
    ≡ map (λ (one : Bor Reading). one.now) l.fn.readings.items ++ readings_in l.notes

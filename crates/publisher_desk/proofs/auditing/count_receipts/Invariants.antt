use Rattle.std.proofs.Common.{◌≡◌, ◌+◌, ◌≤◌, drop}
use Rattle.publisher_desk.specs.Seats.{receipts}
use Rattle.publisher_desk.proofs.auditing.count_receipts.Given as goal

abbrev pub invariant-loop-note : goal.invariant-loop-note
invariant-loop-note l =
    (l.count + receipts (drop l.note-index l.notes) ≡ receipts l.notes) × (l.count ≤ l.note-index)

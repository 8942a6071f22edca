use Rattle.std.proofs.Common.{drop}
use Rattle.senders.specs.Gathering.{numbers_of, receipts_in, IsRising}
use Rattle.senders.proofs.NumberLemmas.{Leaves}
use Rattle.senders.proofs.numbering.is_rising.Given as goal

abbrev pub invariant-loop-note : goal.invariant-loop-note
invariant-loop-note l =
    Leaves (IsRising l.high l.notes) l.high l.last (numbers_of (receipts_in (drop l.note-index l.notes)))

use Rattle.std.proofs.Common.{◌≡◌, ◌+◌, drop}
use Rattle.shard_checker.specs.Texts.{text_fault, texts_view}
use Rattle.shard_checker.proofs.texts.read_texts.Given as goal

-- the first fault of those that are left is that of all
abbrev pub invariant-loop-number : goal.invariant-loop-number
invariant-loop-number l =
    text_fault (l.number + 1) (texts_view (drop l.number l.texts)) ≡ text_fault 1 (texts_view l.texts)

use Rattle.std.proofs.Common.{◌≡◌, true}
use Rattle.std.specs.Prelude.{All}
use Rattle.filter_memo.specs.Covering.{covers}
use Rattle.filter_memo.specs.Telling.{part_at}
use Rattle.filter_memo.proofs.all_breakpoints.numbers_of.Given as goal

-- the filters so far are covered
abbrev pub invariant-loop-number : goal.invariant-loop-number
invariant-loop-number l = All (λ number. covers l.term l.bounds (part_at l.parts number) ≡ true) l.numbers.items

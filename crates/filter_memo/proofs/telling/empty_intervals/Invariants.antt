use Rattle.std.specs.Prelude.{All}
use Rattle.filter_memo.specs.Intervals.{HasNoNumber}
use Rattle.filter_memo.proofs.telling.empty_intervals.Given as goal

-- no interval so far contains a number
abbrev pub invariant-loop : goal.invariant-loop
invariant-loop l = All HasNoNumber l.intervals.items

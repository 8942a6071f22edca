use Rattle.std.proofs.Common.{◌≡◌, None}
use Rattle.std.specs.Prelude.{All}
use Rattle.filter_memo.proofs.telling.empty_buckets.Given as goal

-- all cells so far are empty
abbrev pub invariant-loop : goal.invariant-loop
invariant-loop l = All (λ cell. cell ≡ None) l.cells.items

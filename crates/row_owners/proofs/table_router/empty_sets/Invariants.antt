use Rattle.std.proofs.Common.{◌≡◌}
use Rattle.std.specs.Prelude.{All, None}
use Rattle.row_owners.proofs.table_router.empty_sets.Given as goal

-- no slot so far keeps a set
abbrev pub invariant-loop : goal.invariant-loop
invariant-loop l = All (λ slot. slot ≡ None) l.slots.items

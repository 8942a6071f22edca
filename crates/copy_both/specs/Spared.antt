-- When a set of subscribers lacks the subscriber of a stream, and when the sets of one plan are those of another (the
-- project's own).
use Rattle.std.specs.Prelude.{◌≡◌, ◌<◌, ℕ, false}
use Rattle.replica_identity.specs.Plans.{PlanOf}
use Rattle.row_owners.specs.Owners.{is_for, owned}
use Rattle.row_owners.specs.declared.owner_set.OwnerSet.{OwnerSet}
use Rattle.table_changes.specs.Records.{ChangeOf}
use Rattle.copy_both.specs.Voices.{StageOf, NotStarted, Started, Closed}

-- the stream runs, and the set lacks the subscriber of its slot
abbrev pub IsSpared : OwnerSet → StageOf → Type 0
IsSpared owners NotStarted = ⊥
IsSpared owners (Started state) = (state.slot < 32) × (owned owners state.slot ≡ false)
IsSpared owners Closed = ⊥

-- by both plans, the same subscribers get something from each change
abbrev pub RouteAlike : PlanOf → PlanOf → Type 0
RouteAlike one other = (subscriber : ℕ) (change : ChangeOf)
    → is_for one subscriber change ≡ is_for other subscriber change

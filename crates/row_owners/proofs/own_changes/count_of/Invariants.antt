use Rattle.std.proofs.Common.{◌≡◌, ◌+◌, ◌-◌, count_by, length, take}
use Rattle.row_owners.specs.Owners.{owned}
use Rattle.row_owners.proofs.own_changes.count_of.Given as goal

abbrev pub invariant-loop-set : goal.invariant-loop-set
invariant-loop-set l =
    l.count ≡ count_by (λ set. owned set l.subscriber) (take l.set-index l.sets) + (l.changes - length l.sets)

use Rattle.std.proofs.Common.{length, ℕ, ◌-◌, ◌<◌, ◌≤◌}
use Rattle.row_owners.specs.Owners.{IsSpared}
use Rattle.row_owners.proofs.own_changes.next_of.Given as goal

abbrev pub invariant-loop-place : goal.invariant-loop-place
invariant-loop-place l = record {
  onward : l.from ≤ l.place;
  spared : (place : ℕ) → l.from ≤ place → place < l.place → IsSpared l.sets l.subscriber place;
}

abbrev pub decreases-loop-place : goal.decreases-loop-place
decreases-loop-place l = length l.sets - l.place

use Rattle.std.proofs.Common.{◌≡◌, false, length}
use Rattle.filter_tree.specs.Paths.{path_view}
use Rattle.shard_checker.specs.WalkInvariants.{WalkAgrees}
use Rattle.shard_checker.specs.Walking.{due_of, onward}
use Rattle.shard_checker.proofs.walk.leave.Given as goal

-- what comes after the entries that are left is what comes after all
abbrev pub invariant-loop-number : goal.invariant-loop-number
invariant-loop-number g l = record {
  onward : onward (path_view l.walk.path.items) ≡ onward (path_view l.fn.walk.path.items);
  ready : WalkAgrees l.subject l.walk;
  node : l.walk.node ≡ l.fn.walk.node;
  due : l.walk.is_over ≡ false;
  same : due_of l.subject l.walk ≡ due_of l.subject l.fn.walk;
}

abbrev pub decreases-loop-number : goal.decreases-loop-number
decreases-loop-number g l = length (path_view l.walk.path.items)

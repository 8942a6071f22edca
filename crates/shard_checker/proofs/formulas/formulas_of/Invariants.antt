use Rattle.std.proofs.Common.{◌≡◌, true, take, drop}
use Rattle.filter_tree.specs.Shape.{atoms_view}
use Rattle.shard_checker.specs.Owners.{shares_view}
use Rattle.shard_checker.specs.Steps.{all_name_only, IsCompiled}
use Rattle.shard_checker.proofs.formulas.formulas_of.Given as goal

-- the shares so far are among the steps, and those that are left have no other atoms
abbrev pub invariant-loop-share : goal.invariant-loop-share
invariant-loop-share g l = record {
  so_far : IsCompiled (atoms_view l.atoms) (shares_view (take l.share-index l.shares)) l.formulas;
  left : all_name_only (atoms_view l.atoms) (shares_view (drop l.share-index l.shares)) ≡ true;
}

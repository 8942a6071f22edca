use Rattle.std.proofs.Common.{◌≡◌, take, nat_eq}
use Rattle.filter_tree.specs.Lists.{distinct, columns_in}
use Rattle.filter_tree.specs.Shape.{atoms_view}
use Rattle.filter_tree.proofs.lists.columns_of.Given as goal

-- the list has what the atoms so far have
abbrev pub invariant-loop-atom : goal.invariant-loop-atom
invariant-loop-atom g l = l.columns.items ≡ distinct nat_eq (columns_in (atoms_view (take l.atom-index l.atom-items)))

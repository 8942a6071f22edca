use Rattle.std.proofs.Common.{◌≡◌, map, take}
use Rattle.filter_tree.specs.Expr.{term_of}
use Rattle.filter_tree.specs.Lists.{distinct}
use Rattle.filter_tree.specs.Same.{same_term}
use Rattle.filter_tree.specs.Shape.{atoms_view}
use Rattle.filter_tree.proofs.lists.terms_of.Given as goal

-- the list has what the atoms so far have
abbrev pub invariant-loop-atom : goal.invariant-loop-atom
invariant-loop-atom g l = l.terms.items ≡ distinct same_term (map term_of (atoms_view (take l.atom-index l.atom-items)))

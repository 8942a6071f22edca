use Rattle.std.proofs.Common.{◌∙◌, ap}
use Rattle.filter_tree.specs.Shape.{atoms_view}
use Rattle.filter_tree.proofs.DistinctLemmas.{atom_added}
use Rattle.filter_tree.proofs.lists.add_atom.Goals as goal

-- the list with the atom, with atoms seen as plain data
pub returns : goal.returns
returns g c = ap atoms_view c.in_ok-add_distinct.ensures ∙ atom_added c.args.atoms.now.items c.args.atom

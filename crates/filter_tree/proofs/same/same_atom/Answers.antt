use Rattle.std.proofs.Common.{sym, ◌∙◌}
use Rattle.filter_tree.specs.Shape.{atom_view}
use Rattle.filter_tree.proofs.SameLemmas.{same_atom_is, same_atom_of_equal}
use Rattle.filter_tree.proofs.same.same_atom.Goals as goal

-- the test recognizes equal atoms
pub returns-clause-equal : goal.returns-clause-equal
returns-clause-equal g c = (
  λ told. same_atom_is (atom_view c.args.one.now) (atom_view c.args.other.now) (sym c.has_same_parts.ensures ∙ told),
  λ equal. c.has_same_parts.ensures ∙ same_atom_of_equal (atom_view c.args.one.now) (atom_view c.args.other.now) equal,
)

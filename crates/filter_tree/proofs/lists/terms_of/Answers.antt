use Rattle.std.proofs.Common.{map, ◌∙◌, ap}
use Rattle.filter_tree.specs.Expr.{term_of}
use Rattle.filter_tree.specs.Lists.{distinct}
use Rattle.filter_tree.specs.Same.{same_term}
use Rattle.filter_tree.specs.Shape.{atoms_view, expr_view}
use Rattle.filter_tree.proofs.DistinctLemmas.{terms_of_atoms, all_taken}
use Rattle.filter_tree.proofs.lists.terms_of.Goals as goal

-- the loop has gone over all of the filter's atoms
pub returns : goal.returns
returns g c =
    c.loop-atom.invariant
    ∙ ap (λ atoms. distinct same_term (map term_of (atoms_view atoms)))
    (all_taken _ _ _ c.loop-atom-test.false c.deref-atom-items.ensures.value)
    ∙ ap (λ atoms. distinct same_term (map term_of atoms)) c.in_ok-atoms.ensures
    ∙ terms_of_atoms (expr_view c.args.filter.now)

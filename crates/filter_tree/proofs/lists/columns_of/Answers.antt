use Rattle.std.proofs.Common.{◌∙◌, ap, nat_eq}
use Rattle.filter_tree.specs.Lists.{distinct, columns_in}
use Rattle.filter_tree.specs.Shape.{atoms_view, expr_view}
use Rattle.filter_tree.proofs.DistinctLemmas.{columns_of_atoms, all_taken}
use Rattle.filter_tree.proofs.ListsLemmas.{determined_by_columns}
use Rattle.filter_tree.proofs.lists.columns_of.Goals as goal

-- the loop has gone over all of the filter's atoms
pub returns-clause-list : goal.returns-clause-list
returns-clause-list g c =
    c.loop-atom.invariant
    ∙ ap (λ atoms. distinct nat_eq (columns_in (atoms_view atoms)))
    (all_taken _ _ _ c.loop-atom-test.false c.deref-atom-items.ensures.value)
    ∙ ap (λ atoms. distinct nat_eq (columns_in atoms)) c.in_ok-atoms.ensures
    ∙ columns_of_atoms (expr_view c.args.filter.now)

pub returns-clause-determined : goal.returns-clause-determined
returns-clause-determined g c =
    determined_by_columns (expr_view c.args.filter.now) c.loop-atom.columns.items (returns-clause-list g c)

use Rattle.std.proofs.Common.{◌≡◌, ◌++◌, map, drop}
use Rattle.filter_tree.specs.Shape.{expr_view}
use Rattle.pub_catalog.specs.CatalogView.{entry_view}
use Rattle.pub_reader.specs.Drafts.{filters_in}
use Rattle.pub_reader.proofs.filters.add_filters.Given as goal

abbrev pub invariant-loop-entry : goal.invariant-loop-entry
invariant-loop-entry l =
    map (λ f. expr_view f.now) l.filters.items
    ++ filters_in (λ f. f) l.number (map entry_view (drop l.entry-index l.entries))
    ≡ map (λ f. expr_view f.now) l.fn.filters.items ++ filters_in (λ f. f) l.number (map entry_view l.entries)

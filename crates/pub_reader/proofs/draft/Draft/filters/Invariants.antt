use Rattle.std.proofs.Common.{◌≡◌, ◌++◌, map, drop}
use Rattle.filter_tree.specs.Shape.{expr_view}
use Rattle.pub_reader.specs.DraftView.{draft_publication_view}
use Rattle.pub_reader.specs.Drafts.{filters_on}
use Rattle.pub_reader.proofs.draft.Draft.filters.Given as goal

abbrev pub invariant-loop-publication : goal.invariant-loop-publication
invariant-loop-publication l =
    map (λ f. expr_view f.now) l.filters.items
    ++ filters_on (λ f. f) l.number (map draft_publication_view (drop l.publication-index l.publication-items))
    ≡ filters_on (λ f. f) l.number (map draft_publication_view l.publication-items)

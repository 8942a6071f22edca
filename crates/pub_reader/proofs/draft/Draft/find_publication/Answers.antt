use Rattle.std.proofs.Common.{◌∙◌, sym}
use Rattle.std.specs.Str.{bytes_eq}
use Rattle.filter_tree.specs.Expr.{Expr}
use Rattle.pub_reader.specs.declared.draft.DraftPublication.{DraftPublication}
use Rattle.pub_reader.specs.Drafts.{DraftPublicationOf}
use Rattle.pub_reader.specs.DraftView.{draft_publication_view}
use Rattle.pub_reader.proofs.Positions.{position-by_names}
use Rattle.pub_catalog.proofs.Positions.{position-map}
use Rattle.pub_reader.proofs.draft.Draft.find_publication.Goals as goal

pub returns : goal.returns
returns c =
    let self = c.args.self.now in
    c.find.ensures.value
    ∙ position-by_names c.args.name.now (λ (p : DraftPublication). p.name) self.publication_names
    self.publications.items self.same_publications
    ∙ sym (position-map (λ (p : DraftPublicationOf Expr). bytes_eq c.args.name.now p.name) draft_publication_view
    self.publications.items)

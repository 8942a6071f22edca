use Rattle.std.proofs.Common.{◌∙◌, ◌++◌, ◌∷◌, [], ap, sym}
use Rattle.std.specs.Str.{bytes_eq}
use Rattle.std.specs.String.{string_bytes}
use Rattle.filter_tree.specs.Expr.{Expr}
use Rattle.pub_reader.specs.declared.draft.DraftPublication.{DraftPublication}
use Rattle.pub_reader.specs.Drafts.{DraftPublicationOf}
use Rattle.pub_reader.specs.DraftView.{draft_publication_view}
use Rattle.pub_reader.proofs.Positions.{names-push}
use Rattle.pub_catalog.proofs.Positions.{position-map}
use Rattle.pub_reader.proofs.draft.Draft.add_publication.Goals as goal

pub invariant_of-self-2 : goal.invariant_of-self-2
invariant_of-self-2 c =
    let self = c.args.self.now in
    let free = sym (position-map (λ (p : DraftPublicationOf Expr). bytes_eq c.args.publication.name p.name)
    draft_publication_view self.publications.items) ∙ c.requires in
    record {
      same_publications = names-push (λ (p : DraftPublication). p.name) (string_bytes c.in_ok-name.name)
          self.publication_names c.add.new.self self.publications.items c.push_reserved.new.self.items
          c.args.publication
          self.same_publications (c.in_ok-name.ensures.ok ∙ c.as_str.ensures) free c.in_ok-add.ensures.ok
          (c.push_reserved.ensures.items ∙ ap (λ ps. ps ++ c.args.publication ∷ []) c.in_ok-try_reserve.ensures.items);
      same_subscriptions = self.same_subscriptions;
    }

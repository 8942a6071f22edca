use Rattle.std.proofs.Common.{◌≡◌, ◌∙◌, All, map, length, ap, sym, subst, rules, arith}
use Rattle.std.proofs.lemmas.List.{length-map}
use Rattle.filter_tree.specs.Expr.{Expr}
use Rattle.pub_catalog.specs.declared.catalog.Publication.{Publication}
use Rattle.pub_catalog.specs.CatalogEntries.{CarriesKnown}
use Rattle.pub_catalog.specs.CatalogNames.{AreOwnNames, TakesKnown}
use Rattle.pub_catalog.specs.CatalogView.{publication_view}
use Rattle.pub_catalog.specs.Catalogs.{PublicationOf}
use Rattle.pub_reader.specs.DraftView.{draft_publication_view}
use Rattle.pub_reader.specs.Drafts.{resolved_publication}
use Rattle.pub_catalog.proofs.CatalogFacts.{names_viewed}
use Rattle.pub_reader.proofs.OwnNames.{resolved_names}
use Rattle.pub_reader.proofs.draft.Draft.finish.Goals as goal

pub invariant_of-result : goal.invariant_of-result
invariant_of-result c =
    let drafts = map draft_publication_view c.args.self.publications.items in
    let publications = c.in_ok-publications.publications.items in
    let count : length (map (resolved_publication c.args.self.tables.items) drafts) ≡ length publications = omega (
      arith,
      ap length c.in_ok-publications.ensures,
      length-map publications publication_view,
      length-map drafts (resolved_publication c.as_slice.result.now),
      length-map drafts (resolved_publication c.args.self.tables.items),
    ) in
    let names : map (λ (p : PublicationOf Expr). p.name) (map (resolved_publication c.args.self.tables.items) drafts)
    ≡ map (λ (p : Publication). p.name) publications =
    resolved_names c.args.self.tables.items drafts ∙ sym (resolved_names c.as_slice.result.now drafts)
    ∙ sym (ap (map (λ (p : PublicationOf Expr). p.name)) c.in_ok-publications.ensures) ∙ names_viewed publications in
    let entries : map (resolved_publication c.args.self.tables.items) drafts ≡ map publication_view publications =
    ap (λ tables. map (resolved_publication tables) drafts) (search rules) ∙ sym c.in_ok-publications.ensures in
    record {
      few_tables = c.requires.limits.tables;
      limited_tables = ∣ c.requires.limits.each_table ∣₁;
      few_publications = omega (arith, c.requires.limits.publications, count);
      few_subscriptions = c.requires.limits.subscriptions;
      named_publications = ∣ subst AreOwnNames names c.requires.names.publications ∣₁;
      named_subscriptions = ∣ c.requires.names.subscriptions ∣₁;
      known_entries = ∣ subst (All (CarriesKnown c.args.self.tables.items)) entries c.requires.entries ∣₁;
      taken_publications = ∣ subst (λ n. All (TakesKnown n) c.args.self.subscriptions.items) count
          c.requires.names.taken ∣₁;
    }

use Rattle.std.proofs.Common.{◌∙◌, ◌++◌, ℕ, List, ap, map, codes}
use Rattle.std.specs.List.{join_by}
use Rattle.std.specs.String.{string_bytes}
use Rattle.pub_catalog.specs.CatalogView.{publication_view}
use Rattle.catalog_text.specs.CatalogText.{publication_sql, subscription_text}
use Rattle.catalog_text.specs.FilterText.{name_text}
use Rattle.catalog_text.proofs.Joins.{joined_5}
use Rattle.catalog_text.proofs.catalog.write_subscription.Goals as goal

pub returns : goal.returns
unfolding subscription_text
returns c =
    let publications = map publication_view c.args.publications.now in
    let subscription = c.args.subscription.now in
    joined_5 (string_bytes c.args.text.now) (codes "CREATE SUBSCRIPTION ") (name_text subscription.name)
    (codes " CONNECTION '' PUBLICATION ")
    (join_by (publication_sql publications) (codes ", ") subscription.publications) (codes ";\n")
    c.in_ok-push_str.ensures.bytes
    (c.in_ok-write_name.ensures ∙ ap (λ (name : List ℕ). string_bytes c.push_str.new.self ++ name_text name) c.as_str.ensures)
    c.in_ok-push_str-2.ensures.bytes
    (c.in_ok-write_publication_names.ensures
    ∙ ap (λ (numbers : List ℕ). string_bytes c.push_str-2.new.self
    ++ join_by (publication_sql publications) (codes ", ") numbers)
    c.as_slice.ensures)
    c.in_ok-push_str-3.ensures.bytes

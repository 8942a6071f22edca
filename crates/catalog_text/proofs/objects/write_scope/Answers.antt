use Rattle.std.proofs.Common.{◌∙◌, ◌++◌, List, ap, codes, drop, map, sym, take}
use Rattle.std.specs.List.{join_by}
use Rattle.std.specs.String.{string_bytes}
use Rattle.std.proofs.lemmas.List.{drop-map, take-map, take_rest}
use Rattle.filter_tree.specs.Expr.{Expr}
use Rattle.pub_catalog.specs.CatalogView.{entry_view}
use Rattle.pub_catalog.specs.Catalogs.{EntryOf}
use Rattle.pub_catalog.specs.declared.catalog.Entry.{Entry}
use Rattle.catalog_text.proofs.Joins.{joined_3}
use Rattle.catalog_text.specs.CatalogText.{object_text, schemas_from}
use Rattle.catalog_text.proofs.objects.write_scope.Goals as goal

pub returns : goal.returns
returns c =
    let tables = c.args.tables.now in
    let entries = c.args.entries.now in
    let count = c.args.count in
    let named = take count (map entry_view entries) in
    let whole = drop count (map entry_view entries) in
    let written = string_bytes c.write_named.new.text in
    joined_3 (string_bytes c.args.text.now) (codes " FOR ") (join_by (object_text tables) (codes ", ") named)
    (schemas_from tables whole 0 whole) c.in_ok-push_str.ensures.bytes
    (c.in_ok-write_named.ensures
    ∙ ap (λ (them : List (EntryOf Expr)). string_bytes c.push_str.new.self ++ join_by (object_text tables) (codes ", ") them)
    (sym (take-map entry_view count entries)))
    (c.in_ok-write_schemas.ensures
    ∙ ap (λ (them : List Entry). written ++ schemas_from tables (map entry_view them) 0 (map entry_view them))
    (take_rest entries count)
    ∙ ap (λ (them : List (EntryOf Expr)). written ++ schemas_from tables them 0 them)
    (sym (drop-map entry_view count entries)))

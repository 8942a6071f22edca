-- What is left of a text is the text of the next table or entry, followed by that of the later ones.
use Rattle.std.proofs.Common.{◌≡◌, ℕ, ◌+◌, ◌<◌, List, ◌∷◌, ◌++◌, length, get_or, take, drop, map, ap, sym, ◌∙◌}
use Rattle.std.proofs.lemmas.List.{at_drop_more, take-map}
use Rattle.filter_tree.specs.declared.table.Table.{Table}
use Rattle.pub_catalog.specs.CatalogView.{entry_view}
use Rattle.pub_catalog.specs.Catalogs.{EntryOf}
use Rattle.pub_catalog.specs.declared.catalog.Entry.{Entry}
use Rattle.filter_tree.specs.Expr.{Expr}
use Rattle.catalog_text.specs.CatalogText.{made_text, schema_of, schemas_from, table_text, tables_from, whole_text}

pub tables_step : (all : List Table) (n : ℕ) (table : Table) → n < length all → table ≡ get_or all n table
    → tables_from all n (drop n all)
    ≡ made_text (take n all) table.schema ++ (table_text table ++ tables_from all (n + 1) (drop (n + 1) all))
tables_step all n table below is =
    at_drop_more (tables_from all n) all n table below
    ∙ ap (λ (t : Table). tables_from all n (t ∷ drop (n + 1) all)) (sym is)

pub schemas_step : (tables : List Table) (all : List Entry) (n : ℕ) (entry : Entry) → n < length all
    → entry ≡ get_or all n entry
    → schemas_from tables (map entry_view all) n (map entry_view (drop n all))
    ≡ whole_text tables (map entry_view (take n all)) (schema_of tables entry.table)
    ++ schemas_from tables (map entry_view all) (n + 1) (map entry_view (drop (n + 1) all))
schemas_step tables all n entry below is =
    let views = map entry_view all in
    let rest = schemas_from tables views (n + 1) (map entry_view (drop (n + 1) all)) in
    at_drop_more (λ (entries : List Entry). schemas_from tables views n (map entry_view entries)) all n entry below
    ∙ ap (λ (e : Entry). schemas_from tables views n (map entry_view (e ∷ drop (n + 1) all))) (sym is)
    ∙ ap (λ (earlier : List (EntryOf Expr)). whole_text tables earlier (schema_of tables entry.table) ++ rest)
    (take-map entry_view n all)

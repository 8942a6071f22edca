-- The text of a catalog is one of lines, each with its newline.
use Rattle.std.proofs.Common.{◌≡◌, ℕ, ◌+◌, Bool, true, false, List, [], ◌∷◌, ◌++◌, refl, sym, ap, ap₂, ◌∙◌, append_assoc, take, codes}
use Rattle.std.specs.Prelude.{not}
use Rattle.std.specs.List.{flat_map, join_by}
use Rattle.std.proofs.lemmas.List.Concat.{flat_map-append}
use Rattle.filter_tree.specs.Expr.{Expr}
use Rattle.filter_tree.specs.declared.table.Table.{Table}
use Rattle.filter_tree.specs.declared.table.UniqueIndex.{UniqueIndex}
use Rattle.pub_catalog.specs.Catalogs.{PublicationOf, CatalogOf}
use Rattle.pub_catalog.specs.declared.catalog.Subscription.{Subscription}
use Rattle.catalog_text.specs.FilterText.{text_if, name_text}
use Rattle.catalog_text.specs.CatalogText.{alter_text, catalog_text, column_text, columns_text, create_text, for_text, identity_text, index_text, is_made, made_text, operation_words, publication_sql, publication_text, subscription_text, table_sql, table_text, tables_from}
use Rattle.commands.specs.Output.{ended, text_of}
use Rattle.commands.proofs.Writing.{text_of-one}

-- the text is a line with its newline
abbrev EndsLine : List ℕ → Type 0
EndsLine text = (line : List ℕ) × (text ≡ ended line)

-- the text is that of some lines
abbrev pub AreLines : List ℕ → Type 0
AreLines text = (lines : List (List ℕ)) × (text_of lines ≡ text)

abbrev before : List (List ℕ) → List ℕ → List ℕ
before [] text = text
before (piece ∷ pieces) text = piece ++ before pieces text

-- a line of these pieces and a last one
ends_line : (pieces : List (List ℕ)) (last : List ℕ) → EndsLine (before pieces (ended last))
ends_line [] last = (last, refl)
ends_line (piece ∷ pieces) last =
    let more = ends_line pieces last in
    (piece ++ more.0, ap (λ text. piece ++ text) more.1 ∙ sym (append_assoc piece more.0 (10 ∷ [])))

one : (text : List ℕ) → EndsLine text → AreLines text
one text is = (is.0 ∷ [], text_of-one is.0 ∙ sym is.1)

both : (text more : List ℕ) → AreLines text → AreLines more → AreLines (text ++ more)
both text more are others = (
  are.0 ++ others.0,
  flat_map-append ended are.0 others.0 ∙ ap₂ (λ (s t : List ℕ). s ++ t) are.1 others.1,
)

each : {A : Type 0} (f : A → List ℕ) → ((a : A) → AreLines (f a)) → (all : List A) → AreLines (flat_map f all)
each f are [] = ([], refl)
each f are (a ∷ all) = both (f a) (flat_map f all) (are a) (each f are all)

lines_if : (is : Bool) (text : List ℕ) → AreLines text → AreLines (text_if is text)
lines_if true text are = are
lines_if false text are = ([], refl)

-- ---- statements

create_lines : (table : Table) → AreLines (create_text table)
unfolding create_text
create_lines table =
    one _ (ends_line
    (codes "CREATE TABLE " ∷ table_sql table ∷ codes " (" ∷ flat_map column_text table.columns ∷ codes "PRIMARY KEY"
    ∷ columns_text table.columns table.key ∷ []) (codes ");"))

index_lines : (table : Table) (index : UniqueIndex) → AreLines (index_text table index)
unfolding index_text
index_lines table index =
    one _ (ends_line
    (codes "CREATE UNIQUE INDEX " ∷ name_text index.name ∷ codes " ON " ∷ table_sql table
    ∷ columns_text table.columns index.columns ∷ []) (codes ";"))

alter_lines : (table : Table) → AreLines (alter_text table)
unfolding alter_text
alter_lines table =
    one _ (ends_line
    (codes "ALTER TABLE " ∷ table_sql table ∷ codes " REPLICA IDENTITY "
    ∷ identity_text table.indexes table.identity ∷ []) (codes ";"))

table_lines : (table : Table) → AreLines (table_text table)
unfolding table_text
table_lines table =
    let indexes = flat_map (index_text table) table.indexes in
    both (create_text table) (indexes ++ alter_text table) (create_lines table)
    (both indexes (alter_text table) (each (index_text table) (index_lines table) table.indexes) (alter_lines table))

made_lines : (earlier : List Table) (schema : List ℕ) → AreLines (made_text earlier schema)
made_lines earlier schema =
    lines_if (not (is_made earlier schema)) _
    (one _ (ends_line (codes "CREATE SCHEMA " ∷ name_text schema ∷ []) (codes ";")))

tables_lines : (all : List Table) (number : ℕ) (tables : List Table) → AreLines (tables_from all number tables)
tables_lines all number [] = ([], refl)
tables_lines all number (table ∷ tables) =
    let rest = tables_from all (number + 1) tables in
    both (made_text (take number all) table.schema) (table_text table ++ rest)
    (made_lines (take number all) table.schema)
    (both (table_text table) rest (table_lines table) (tables_lines all (number + 1) tables))

publication_lines : (tables : List Table) (publication : PublicationOf Expr)
    → AreLines (publication_text tables publication)
unfolding publication_text
publication_lines tables publication =
    one _ (ends_line
    (codes "CREATE PUBLICATION " ∷ name_text publication.name ∷ for_text tables publication.entries
    ∷ codes " WITH (publish = '"
    ∷ join_by (λ word. word) (codes ", ") (operation_words publication.publishes) ∷ []) (codes "');"))

subscription_lines : (publications : List (PublicationOf Expr)) (subscription : Subscription)
    → AreLines (subscription_text publications subscription)
unfolding subscription_text
subscription_lines publications subscription =
    one _ (ends_line
    (codes "CREATE SUBSCRIPTION " ∷ name_text subscription.name ∷ codes " CONNECTION '' PUBLICATION "
    ∷ join_by (publication_sql publications) (codes ", ") subscription.publications ∷ []) (codes ";"))

pub catalog_lines : (catalog : CatalogOf Expr) → AreLines (catalog_text catalog)
unfolding catalog_text
catalog_lines catalog =
    let publications = flat_map (publication_text catalog.tables) catalog.publications in
    let subscriptions = flat_map (subscription_text catalog.publications) catalog.subscriptions in
    both (tables_from catalog.tables 0 catalog.tables) (publications ++ subscriptions)
    (tables_lines catalog.tables 0 catalog.tables)
    (both publications subscriptions
    (each (publication_text catalog.tables) (publication_lines catalog.tables) catalog.publications)
    (each (subscription_text catalog.publications) (subscription_lines catalog.publications) catalog.subscriptions))

-- A catalog as SQL, in one canonical way: PostgreSQL 15, SQL Commands, CREATE SCHEMA, CREATE TABLE, CREATE INDEX, ALTER
-- TABLE (REPLICA IDENTITY), CREATE PUBLICATION and CREATE SUBSCRIPTION. Each statement is a line. A number of something
-- that the catalog does not have gives no text.
use Rattle.std.specs.Prelude.{ℕ, suc, ◌+◌, Bool, true, false, not, ◌||◌, ◌&&◌, ◌==◌, nat_lt, if◌then◌else◌, List, [], ◌∷◌, ◌++◌, length, take, drop, Option, slice_get, codes}
use Rattle.std.specs.List.{flat_map, join_by, list_all, list_any}
use Rattle.std.specs.Option.{is_some}
use Rattle.std.specs.Str.{bytes_eq}
use Rattle.filter_tree.specs.Expr.{Expr}
use Rattle.filter_tree.specs.declared.table.ColType.{ColType}
use Rattle.filter_tree.specs.declared.table.ColType.TheVariants.{SmallInt, Integer, BigInt, Boolean, Text}
use Rattle.filter_tree.specs.declared.table.Column.{Column}
use Rattle.filter_tree.specs.declared.table.Identity.{Identity}
use Rattle.filter_tree.specs.declared.table.Identity.TheVariants.{Default, Index, Full, Nothing}
use Rattle.filter_tree.specs.declared.table.Table.{Table}
use Rattle.filter_tree.specs.declared.table.UniqueIndex.{UniqueIndex}
use Rattle.pub_catalog.specs.Catalogs.{EntryOf, PublicationOf, CatalogOf}
use Rattle.pub_catalog.specs.declared.catalog.Operations.{Operations}
use Rattle.pub_catalog.specs.declared.catalog.Subscription.{Subscription}
use Rattle.catalog_text.specs.FilterText.{text_if, text_by, name_text, column_sql, expr_text}
use Rattle.catalog_text.specs.declared.level.Level.TheVariants as level

-- ---- tables

abbrev pub type_text : ColType → List ℕ
type_text SmallInt = codes " smallint"
type_text Integer = codes " integer"
type_text BigInt = codes " bigint"
type_text Boolean = codes " boolean"
type_text Text = codes " text"

unfoldable pub column_text : Column → List ℕ
column_text column =
    name_text column.name ++ (type_text column.kind ++ (text_if column.not_null (codes " NOT NULL") ++ codes ", "))

-- a list of columns, by their numbers
unfoldable pub columns_text : List Column → List ℕ → List ℕ
columns_text columns numbers = codes " (" ++ (join_by (column_sql columns) (codes ", ") numbers ++ codes ")")

unfoldable pub table_sql : Table → List ℕ
table_sql table = name_text table.schema ++ (codes "." ++ name_text table.name)

unfoldable pub create_text : Table → List ℕ
create_text table =
    codes "CREATE TABLE " ++ (table_sql table ++ (codes " (" ++ (flat_map column_text table.columns
    ++ (codes "PRIMARY KEY" ++ (columns_text table.columns table.key ++ codes ");\n")))))

unfoldable pub index_text : Table → UniqueIndex → List ℕ
index_text table index =
    codes "CREATE UNIQUE INDEX " ++ (name_text index.name ++ (codes " ON " ++ (table_sql table
    ++ (columns_text table.columns index.columns ++ codes ";\n"))))

abbrev pub index_name : List UniqueIndex → ℕ → List ℕ
index_name indexes number = text_by (λ index. name_text index.name) (slice_get indexes number)

abbrev pub identity_text : List UniqueIndex → Identity → List ℕ
identity_text indexes Default = codes "DEFAULT"
identity_text indexes (Index number) = codes "USING INDEX " ++ index_name indexes number
identity_text indexes Full = codes "FULL"
identity_text indexes Nothing = codes "NOTHING"

unfoldable pub alter_text : Table → List ℕ
alter_text table =
    codes "ALTER TABLE " ++ (table_sql table ++ (codes " REPLICA IDENTITY "
    ++ (identity_text table.indexes table.identity ++ codes ";\n")))

-- each table is followed directly by its indexes and its identity
unfoldable pub table_text : Table → List ℕ
table_text table = create_text table ++ (flat_map (index_text table) table.indexes ++ alter_text table)

-- the schema "public" exists from the start, and any other schema from its first table on
abbrev pub is_made : List Table → List ℕ → Bool
is_made earlier schema = bytes_eq schema (codes "public") || list_any (λ table. bytes_eq schema table.schema) earlier

abbrev pub made_text : List Table → List ℕ → List ℕ
made_text earlier schema =
    text_if (not (is_made earlier schema)) (codes "CREATE SCHEMA " ++ (name_text schema ++ codes ";\n"))

-- the last tables of all tables; the first of them has this number
abbrev pub tables_from : List Table → ℕ → List Table → List ℕ
tables_from all number [] = []
tables_from all number (table ∷ tables) =
    made_text (take number all) table.schema ++ (table_text table ++ tables_from all (number + 1) tables)

-- ---- publications

abbrev pub where_text : List Column → Option Expr → List ℕ
where_text columns filter =
    text_by (λ it. codes " WHERE (" ++ (expr_text columns level.Or false it ++ codes ")")) filter

-- a table that is named, with its filter
abbrev pub named_text : Option Expr → Table → List ℕ
named_text filter table = codes "TABLE " ++ (table_sql table ++ where_text table.columns filter)

unfoldable pub object_text : List Table → EntryOf Expr → List ℕ
object_text tables entry = text_by (named_text entry.filter) (slice_get tables entry.table)

-- A publication carries a table twice only if it names the table and also carries it with its whole schema. Then tables
-- are named until what is left is exactly the tables of some schemas: each whole, in the order of the tables, and all
-- tables of these schemas. What is left is written by its schemas.

abbrev pub has_entry : ℕ → List (EntryOf Expr) → Bool
has_entry number entries = list_any (λ entry. entry.table == number) entries

abbrev pub comes_twice : List (EntryOf Expr) → Bool
comes_twice [] = false
comes_twice (entry ∷ entries) = has_entry entry.table entries || comes_twice entries

abbrev pub schema_of : List Table → ℕ → List ℕ
schema_of tables number = text_by (λ table. table.schema) (slice_get tables number)

-- whether one of the entries is for a table of the schema
abbrev pub has_schema : List Table → List (EntryOf Expr) → List ℕ → Bool
has_schema tables entries schema = list_any (λ entry. bytes_eq schema (schema_of tables entry.table)) entries

abbrev pub is_before : ℕ → List (EntryOf Expr) → Bool
is_before number entries = list_all (λ entry. nat_lt number entry.table) entries

abbrev pub are_ascending : List (EntryOf Expr) → Bool
are_ascending [] = true
are_ascending (entry ∷ entries) = is_before entry.table entries && are_ascending entries

abbrev pub are_whole : List (EntryOf Expr) → Bool
are_whole entries = list_all (λ entry. not (is_some entry.filter)) entries

-- the table with this number and schema has an entry, or no table of the schema has one
abbrev pub is_listed_whole : List Table → List (EntryOf Expr) → ℕ → List ℕ → Bool
is_listed_whole tables entries number schema = not (has_schema tables entries schema) || has_entry number entries

-- whether each of these tables has an entry if a table of its schema has one; the first of these tables has this number
abbrev pub have_entries : List Table → List (EntryOf Expr) → ℕ → List Table → Bool
have_entries all entries number [] = true
have_entries all entries number (table ∷ tables) =
    is_listed_whole all entries number table.schema && have_entries all entries (number + 1) tables

abbrev pub are_schemas : List Table → List (EntryOf Expr) → Bool
are_schemas tables entries =
    are_whole entries && (are_ascending entries && have_entries tables entries 0 tables)

-- how many entries come before those that are exactly the tables of some schemas
abbrev pub named_before : List Table → List (EntryOf Expr) → ℕ
named_before tables [] = 0
named_before tables (entry ∷ entries) =
    if are_schemas tables (entry ∷ entries) then 0 else suc (named_before tables entries)

abbrev pub named_count : List Table → List (EntryOf Expr) → ℕ
named_count tables entries = if comes_twice entries then named_before tables entries else length entries

-- a schema, unless one of the earlier entries is for a table of it
abbrev pub whole_text : List Table → List (EntryOf Expr) → List ℕ → List ℕ
whole_text tables earlier schema =
    text_if (not (has_schema tables earlier schema)) (codes ", TABLES IN SCHEMA " ++ name_text schema)

-- the schemas of all entries from this number on
abbrev pub schemas_from : List Table → List (EntryOf Expr) → ℕ → List (EntryOf Expr) → List ℕ
schemas_from tables all number [] = []
schemas_from tables all number (entry ∷ entries) =
    whole_text tables (take number all) (schema_of tables entry.table) ++ schemas_from tables all (number + 1) entries

-- the first `count` entries are named, and the others are written by their schemas
abbrev pub objects_by : List Table → List (EntryOf Expr) → ℕ → List ℕ
objects_by tables entries count =
    join_by (object_text tables) (codes ", ") (take count entries)
    ++ schemas_from tables (drop count entries) 0 (drop count entries)

abbrev pub for_text : List Table → List (EntryOf Expr) → List ℕ
for_text tables [] = []
for_text tables (entry ∷ entries) =
    codes " FOR " ++ objects_by tables (entry ∷ entries) (named_count tables (entry ∷ entries))

abbrev pub word_if : Bool → List ℕ → List (List ℕ)
word_if is word = if is then word ∷ [] else []

unfoldable pub operation_words : Operations → List (List ℕ)
operation_words publishes =
    word_if publishes.insert (codes "insert") ++ word_if publishes.update (codes "update")
    ++ word_if publishes.delete (codes "delete") ++ word_if publishes.truncate (codes "truncate")

unfoldable pub publication_text : List Table → PublicationOf Expr → List ℕ
publication_text tables publication =
    codes "CREATE PUBLICATION " ++ (name_text publication.name ++ (for_text tables publication.entries
    ++ (codes " WITH (publish = '" ++ (join_by (λ word. word) (codes ", ") (operation_words publication.publishes)
    ++ codes "');\n"))))

-- ---- subscriptions

abbrev pub publication_sql : List (PublicationOf Expr) → ℕ → List ℕ
publication_sql publications number =
    text_by (λ publication. name_text publication.name) (slice_get publications number)

-- how it connects is unknown
unfoldable pub subscription_text : List (PublicationOf Expr) → Subscription → List ℕ
subscription_text publications subscription =
    codes "CREATE SUBSCRIPTION " ++ (name_text subscription.name ++ (codes " CONNECTION '' PUBLICATION "
    ++ (join_by (publication_sql publications) (codes ", ") subscription.publications ++ codes ";\n")))

-- ---- the catalog

unfoldable pub catalog_text : CatalogOf Expr → List ℕ
catalog_text catalog =
    tables_from catalog.tables 0 catalog.tables ++ (flat_map (publication_text catalog.tables) catalog.publications
    ++ flat_map (subscription_text catalog.publications) catalog.subscriptions)

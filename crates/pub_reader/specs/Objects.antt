-- What a publication is for: PostgreSQL 15, SQL Commands, CREATE PUBLICATION: FOR TABLE, FOR TABLES IN SCHEMA and the
-- WHERE clause.
use Rattle.std.specs.Prelude.{ℕ, Bool, not, ◌&&◌, ◌||◌, ◌==◌, if◌then◌else◌, List, [], ◌∷◌, ◌++◌, Option, Some, None, Ok, Err}
use Rattle.std.specs.List.{list_any}
use Rattle.std.specs.Option.{is_some}
use Rattle.filter_tree.specs.Expr.{Expr}
use Rattle.sql_tokens.specs.declared.kinds.Operator.TheVariants.{Star}
use Rattle.pub_reader.specs.Grammar.k
use Rattle.pub_reader.specs.Grammar.i
use Rattle.pub_reader.specs.Grammar.w
use Rattle.pub_reader.specs.Grammar.{Item, PlacedName, Rule, Verdict, fault, ◌>>=◌, ◌>>◌, pure, check, refuse, refuse_as, advance, look, eat, expect, item_ahead, link, repeat, name}
use Rattle.sql_reader.specs.declared.error.Limit.{Limit}
use Rattle.sql_reader.specs.Expressions.{Forms, expression}
use Rattle.sql_reader.specs.Limits.{exceeded}
use Rattle.pub_reader.specs.declared.coverage.ObjectKind.{ObjectKind}
use Rattle.pub_reader.specs.declared.coverage.ObjectKind.TheVariants as o
use Rattle.pub_catalog.specs.Catalogs.{EntryOf, columns_at}
use Rattle.pub_reader.specs.Drafts.{CoverageOf, DraftOf, nothing_covered, public_schema, find_schema, with_name, filters_in, filters_on}
use Rattle.pub_reader.specs.TableNames.{table_named}

-- ---- what one more object adds

-- a schema, whose second mention is ignored
abbrev pub with_schema : {S : Type 0} → CoverageOf S → List ℕ → CoverageOf S
with_schema coverage schema = record coverage { schemas = with_name coverage.schemas schema }

abbrev pub schema_by : {S : Type 0} → CoverageOf S → PlacedName → Option ℕ → Verdict (CoverageOf S)
schema_by coverage called (Some number) = Ok (with_schema coverage called.text)
schema_by coverage called None = Err (fault called.place w.UnknownName)

-- a schema that was created before
unfoldable pub schema_mentioned : {S : Type 0} → DraftOf S → CoverageOf S → PlacedName → Verdict (CoverageOf S)
schema_mentioned draft coverage called = schema_by coverage called (find_schema called.text draft.schemas)

abbrev pub is_entry_of : {S : Type 0} → ℕ → EntryOf S → Bool
is_entry_of number entry = entry.table == number

abbrev pub is_filtered : {S : Type 0} → ℕ → EntryOf S → Bool
is_filtered number entry = entry.table == number && is_some entry.filter

-- A table; its name is at this place. Its second mention is ignored, but refused if either mention has a filter.
unfoldable pub table_mentioned : {S : Type 0} → CoverageOf S → ℕ → EntryOf S → Verdict (CoverageOf S)
table_mentioned coverage place entry =
    if not (list_any (is_entry_of entry.table) coverage.entries) then
    Ok (record coverage { entries = coverage.entries ++ entry ∷ [] })
    else if is_some entry.filter || list_any (is_filtered entry.table) coverage.entries then
    Err (fault place w.TableTwice)
    else Ok coverage

-- ---- WHERE

abbrev pub limited_by : ℕ → Option Limit → Verdict (Unit {0})
limited_by place None = Ok tt
limited_by place (Some limit) = Err (fault place (w.TooMany limit))

-- the filters on a table are limited; a fault is at the word WHERE of the filter that exceeds a limit
unfoldable pub limited : ℕ → List Expr → Verdict (Unit {0})
limited place filters = limited_by place (exceeded filters)

-- the objects read so far: the kind of the last one, and what they cover
pub record ObjectsOf (S : Type 0) : Type 0 where
  pub kind : ObjectKind
  pub coverage : CoverageOf S

abbrev pub objects_so_far : {S : Type 0} → ObjectKind → CoverageOf S → ObjectsOf S
objects_so_far kind coverage = record { kind = kind; coverage = coverage }

-- ---- a schema

unfoldable pub named_schema : {S : Type 0} → DraftOf S → CoverageOf S → Rule (ObjectsOf S)
named_schema draft coverage = do
  called ← name
  covered ← check (schema_mentioned draft coverage called)
  pure (objects_so_far o.Schema covered)

-- the current schema is "public"
unfoldable pub current_schema : {S : Type 0} → CoverageOf S → Rule (ObjectsOf S)
current_schema coverage =
    expect (i.Keyword k.CurrentSchema) >> pure (objects_so_far o.Schema (with_schema coverage public_schema))

abbrev pub schema_object_by : {S : Type 0} → Option Item → DraftOf S → CoverageOf S → Rule (ObjectsOf S)
schema_object_by (Some (i.Keyword k.CurrentSchema)) draft coverage = current_schema coverage
schema_object_by _ draft coverage = named_schema draft coverage

unfoldable pub schema_object : {S : Type 0} → DraftOf S → CoverageOf S → Rule (ObjectsOf S)
schema_object draft coverage ts = schema_object_by (item_ahead ts) draft coverage ts

-- after TABLES
unfoldable pub in_schema : {S : Type 0} → DraftOf S → CoverageOf S → Rule (ObjectsOf S)
in_schema draft coverage = do
  expect (i.Keyword k.In)
  expect (i.Keyword k.Schema)
  schema_object draft coverage

-- a schema, after its name was read
unfoldable pub taken_schema : {S : Type 0} → DraftOf S → CoverageOf S → PlacedName → Rule (ObjectsOf S)
taken_schema draft coverage called =
    check (schema_mentioned draft coverage called) >>= (λ covered. pure (objects_so_far o.Schema covered))

module _ {S : Type 0} (forms : Forms S) where
  -- ---- a table

  -- the parenthesis after a filter
  unfoldable pub filter_end : DraftOf S → CoverageOf S → ℕ → ℕ → S → Rule (Option S)
  filter_end draft coverage number place filter = do
    expect i.Close
    check (limited place ((filters_on forms.tree number draft.publications
        ++ filters_in forms.tree number coverage.entries) ++ forms.tree filter ∷ []))
    pure (Some filter)

  unfoldable pub where_clause : DraftOf S → CoverageOf S → ℕ → Rule (Option S)
  where_clause draft coverage number = do
    place ← expect (i.Keyword k.Where)
    expect i.Open
    filter ← expression forms (columns_at draft.tables number)
    filter_end draft coverage number place filter

  -- after a table: a filter, or nothing; a list of columns is refused
  abbrev pub filter_by : Option Item → DraftOf S → CoverageOf S → ℕ → Rule (Option S)
  filter_by (Some (i.Keyword k.Where)) draft coverage number = where_clause draft coverage number
  filter_by (Some i.Open) draft coverage number = refuse_as w.ColumnList
  filter_by _ draft coverage number = pure None

  unfoldable pub filter_clause : DraftOf S → CoverageOf S → ℕ → Rule (Option S)
  filter_clause draft coverage number = look >> (λ ts. filter_by (item_ahead ts) draft coverage number ts)

  -- a table with its filter, or a whole table, after a first name was read
  unfoldable pub taken_table : DraftOf S → CoverageOf S → PlacedName → Rule (ObjectsOf S)
  taken_table draft coverage called = do
    number ← table_named draft called
    -- a star includes the tables that inherit from a table, of which there are none
    eat (i.Operator Star)
    filter ← filter_clause draft coverage number
    covered ← check (table_mentioned coverage called.place (record { table = number; filter = filter }))
    pure (objects_so_far o.Table covered)

  unfoldable pub table_object : DraftOf S → CoverageOf S → Rule (ObjectsOf S)
  table_object draft coverage = do
    eat (i.Keyword k.Only)
    called ← name
    taken_table draft coverage called

  -- ---- objects

  -- an object of this kind, after its name was read
  abbrev pub taken_by : ObjectKind → DraftOf S → CoverageOf S → PlacedName → Rule (ObjectsOf S)
  taken_by o.Table draft coverage called = taken_table draft coverage called
  taken_by o.Schema draft coverage called = taken_schema draft coverage called

  -- TABLES begins an object of its own if IN follows, and is a name otherwise
  abbrev pub tables_by : Option Item → ObjectKind → DraftOf S → CoverageOf S → PlacedName → Rule (ObjectsOf S)
  tables_by (Some (i.Keyword k.In)) kind draft coverage called = in_schema draft coverage
  tables_by _ kind draft coverage called = taken_by kind draft coverage called

  unfoldable pub after_tables : DraftOf S → ObjectsOf S → PlacedName → Rule (ObjectsOf S)
  after_tables draft objects called =
      look >> (λ ts. tables_by (item_ahead ts) objects.kind draft objects.coverage called ts)

  unfoldable pub tables_object : DraftOf S → ObjectsOf S → Rule (ObjectsOf S)
  tables_object draft objects = name >>= after_tables draft objects

  -- an object of this kind
  abbrev pub object_of : ObjectKind → DraftOf S → CoverageOf S → Rule (ObjectsOf S)
  object_of o.Table draft coverage = table_object draft coverage
  object_of o.Schema draft coverage = schema_object draft coverage

  -- one more object, which is of the kind of the one before unless it names its own
  abbrev pub object_by : Option Item → ObjectKind → DraftOf S → ObjectsOf S → Rule (ObjectsOf S)
  object_by (Some (i.Keyword k.Table)) kind draft objects = advance >> table_object draft objects.coverage
  object_by (Some (i.Keyword k.Tables)) kind draft objects = tables_object draft objects
  object_by _ kind draft objects = object_of kind draft objects.coverage

  unfoldable pub object : DraftOf S → ObjectsOf S → Rule (ObjectsOf S)
  object draft objects ts = object_by (item_ahead ts) objects.kind draft objects ts

  -- the first object names its kind
  abbrev pub first_by : Option Item → DraftOf S → CoverageOf S → Rule (ObjectsOf S)
  first_by (Some (i.Keyword k.Table)) draft coverage = advance >> table_object draft coverage
  first_by (Some (i.Keyword k.Tables)) draft coverage = advance >> in_schema draft coverage
  first_by _ draft coverage = refuse

  unfoldable pub first_object : DraftOf S → CoverageOf S → Rule (ObjectsOf S)
  first_object draft coverage ts = first_by (item_ahead ts) draft coverage ts

  unfoldable pub objects : DraftOf S → Rule (ObjectsOf S)
  objects draft = first_object draft nothing_covered >>= repeat (link i.Comma (object draft))

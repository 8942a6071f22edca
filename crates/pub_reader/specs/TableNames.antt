-- The names of tables, with their schemas: PostgreSQL 15, "Data Definition", 5.9 Schemas. A name without a schema is in
-- the schema "public".
use Rattle.std.specs.Prelude.{ℕ, Bool, true, nat_le, if◌then◌else◌, List, length, Option, Some, Err}
use Rattle.filter_tree.specs.declared.table.Table.{Table}
use Rattle.pub_reader.specs.Grammar.k
use Rattle.pub_reader.specs.Grammar.i
use Rattle.pub_reader.specs.Grammar.w
use Rattle.pub_reader.specs.Grammar.{Item, PlacedName, Rule, Verdict, fault, ◌>>=◌, ◌>>◌, pure, check, look, expect, is_ahead, item_ahead, name}
use Rattle.sql_reader.specs.declared.error.Omitted.TheVariants.{Constraint}
use Rattle.sql_reader.specs.declared.error.Limit.TheVariants.{Tables}
use Rattle.sql_reader.specs.Columns.{unsupported}
use Rattle.pub_reader.specs.declared.table_name.NewName.{NewName}
use Rattle.pub_reader.specs.Drafts.{DraftOf, public_schema, find_table, find_relation}
use Rattle.pub_reader.specs.Schemas.{fresh, known_position, known_schema}

-- ---- a table that was created before

unfoldable pub known_table : List Table → List ℕ → PlacedName → Verdict ℕ
known_table tables schema called = known_position called (find_table schema called.text tables)

-- a dot and a name, after the name of a schema
unfoldable pub name_in_schema : List (List ℕ) → PlacedName → Rule PlacedName
name_in_schema schemas schema = do
  check (known_schema schemas schema)
  expect i.Dot
  name

-- the table with that name
unfoldable pub table_in_schema : {S : Type 0} → DraftOf S → PlacedName → Rule ℕ
table_in_schema draft schema =
    name_in_schema draft.schemas schema >>= (λ called. check (known_table draft.tables schema.text called))

-- After a first name, which is that of a schema if a dot follows: the token after it is checked before the name is
-- looked up.
unfoldable pub table_named : {S : Type 0} → DraftOf S → PlacedName → Rule ℕ
table_named draft called =
    look >> (λ ts. if is_ahead i.Dot ts then
    table_in_schema draft called ts else check (known_table draft.tables public_schema called) ts)

unfoldable pub table_number : {S : Type 0} → DraftOf S → Rule ℕ
table_number draft = name >>= table_named draft

-- ---- a new table

-- a new table has a name that no table and no index of its schema has, and there are at most 64 tables
unfoldable pub check_new_table : List Table → NewName → Verdict (Unit {0})
check_new_table tables called =
    fresh called.name (find_relation called.schema called.name.text tables) (nat_le 64 (length tables)) Tables

unfoldable pub new_in_schema : List (List ℕ) → PlacedName → Rule NewName
new_in_schema schemas schema =
    name_in_schema schemas schema >>= (λ called. pure (record { schema = schema.text; name = called }))

-- IF is a name unless NOT follows, which begins a clause that is not supported
abbrev pub new_by : Bool → Option Item → List (List ℕ) → PlacedName → Rule NewName
new_by true (Some (i.Keyword k.Not)) schemas called = check (Err (fault called.place (w.LeftOut Constraint)))
new_by is_if (Some i.Dot) schemas called = new_in_schema schemas called
new_by is_if _ schemas called = pure (record { schema = public_schema; name = called })

-- after a first name, which is IF or not
unfoldable pub new_named : List (List ℕ) → Bool → PlacedName → Rule NewName
new_named schemas is_if called = look >> (λ ts. new_by is_if (item_ahead ts) schemas called ts)

-- PARTITION after the name of a new table begins a clause that is not supported
abbrev pub head_by : Option Item → Rule (Unit {0})
head_by (Some (i.Keyword k.Partition)) = unsupported
head_by _ = pure tt

unfoldable pub table_head : Rule (Unit {0})
table_head ts = head_by (item_ahead ts) ts

unfoldable pub new_name : {S : Type 0} → DraftOf S → Rule NewName
new_name draft = λ ts. (do
  first ← name
  called ← new_named draft.schemas (is_ahead (i.Keyword k.If) ts) first
  check (check_new_table draft.tables called)
  table_head
  pure called) ts

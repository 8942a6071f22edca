-- The tables that a script names, which are those of a catalog: PostgreSQL 15, "Data Definition", 5.9 Schemas. A name
-- without a schema is in the schema "public".
use Rattle.std.specs.Prelude.{ℕ, Bool, ◌||◌, if◌then◌else◌, List, Ok, Err}
use Rattle.std.specs.List.{list_any}
use Rattle.std.specs.Str.{bytes_eq}
use Rattle.filter_tree.specs.declared.table.Table.{Table}
use Rattle.pub_reader.specs.Grammar.i
use Rattle.pub_reader.specs.Grammar.w
use Rattle.pub_reader.specs.Grammar.{PlacedName, Rule, Verdict, fault, ◌>>=◌, ◌>>◌, check, look, expect, is_ahead, name}
use Rattle.pub_reader.specs.Drafts.{public_schema}
use Rattle.pub_reader.specs.TableNames.{known_table}

-- the schema has a table
abbrev pub has_table : List Table → List ℕ → Bool
has_table tables schema = list_any (λ table. bytes_eq schema table.schema) tables

-- A catalog keeps its tables, but no schema that has none: a schema is known if it is "public" or the schema of a
-- table.
abbrev pub is_schema : List Table → List ℕ → Bool
is_schema tables text = bytes_eq text public_schema || has_table tables text

unfoldable pub schema_in_use : List Table → PlacedName → Verdict (Unit {0})
schema_in_use tables called = if is_schema tables called.text then Ok tt else Err (fault called.place w.UnknownName)

-- a dot and a name, after the name of a schema
unfoldable pub name_after_schema : List Table → PlacedName → Rule PlacedName
name_after_schema tables schema = do
  check (schema_in_use tables schema)
  expect i.Dot
  name

-- the number of the table of that name
unfoldable pub table_after_schema : List Table → PlacedName → Rule ℕ
table_after_schema tables schema =
    name_after_schema tables schema >>= (λ called. check (known_table tables schema.text called))

-- After a first name, which is that of a schema if a dot follows: the token after it is checked before the name is
-- looked up.
unfoldable pub table_called : List Table → PlacedName → Rule ℕ
table_called tables called =
    look >> (λ ts. if is_ahead i.Dot ts then
    table_after_schema tables called ts else check (known_table tables public_schema called) ts)

unfoldable pub script_table : List Table → Rule ℕ
script_table tables = name >>= table_called tables

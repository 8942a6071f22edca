-- CREATE TABLE: PostgreSQL 15, SQL Commands, CREATE TABLE.
use Rattle.std.specs.Prelude.{if◌then◌else◌, [], ◌∷◌, ◌++◌, Option, Some, Ok, Err}
use Rattle.filter_tree.specs.declared.table.Identity.TheVariants.{Default}
use Rattle.filter_tree.specs.declared.table.Table.{Table}
use Rattle.pub_reader.specs.Grammar.k
use Rattle.pub_reader.specs.Grammar.i
use Rattle.pub_reader.specs.Grammar.w
use Rattle.pub_reader.specs.Grammar.{Item, PlacedName, Rule, Verdict, fault, ◌>>=◌, ◌>>◌, pure, check, expect, item_ahead}
use Rattle.sql_reader.specs.Columns.{Parts, elements, has_key, unsupported}
use Rattle.pub_reader.specs.declared.table_name.NewName.{NewName}
use Rattle.pub_reader.specs.Drafts.{DraftOf}
use Rattle.pub_reader.specs.TableNames.{new_name}

-- every table has a primary key
unfoldable pub keyed : PlacedName → Parts → Verdict (Unit {0})
keyed called parts = if has_key parts then Ok tt else Err (fault called.place w.NoKey)

abbrev pub new_table : NewName → Parts → Table
new_table called parts =
    record {
      schema = called.schema;
      name = called.name.text;
      columns = parts.columns;
      key = parts.key;
      indexes =
          [];
      identity = Default;
    }

-- the words after the elements that begin a clause that is not supported
abbrev pub tail_by : Option Item → Rule (Unit {0})
tail_by (Some (i.Keyword k.Inherits)) = unsupported
tail_by (Some (i.Keyword k.Partition)) = unsupported
tail_by _ = pure tt

unfoldable pub table_tail : Rule (Unit {0})
table_tail ts = tail_by (item_ahead ts) ts

unfoldable pub table_body : PlacedName → Rule Parts
table_body called = do
  expect i.Open
  parts ← elements
  expect i.Close
  check (keyed called parts)
  table_tail
  pure parts

unfoldable pub create_table : {S : Type 0} → DraftOf S → Rule (DraftOf S)
create_table draft = do
  called ← new_name draft
  parts ← table_body called.name
  pure (record draft { tables = draft.tables ++ new_table called parts ∷ [] })

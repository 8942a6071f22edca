-- ALTER TABLE .. REPLICA IDENTITY: PostgreSQL 15, SQL Commands, ALTER TABLE.
use Rattle.std.specs.Prelude.{ℕ, if◌then◌else◌, List, Option, Some, None, Ok, Err, slice_get}
use Rattle.filter_tree.specs.declared.table.Column.{Column}
use Rattle.filter_tree.specs.declared.table.Identity.{Identity}
use Rattle.filter_tree.specs.declared.table.Identity.TheVariants.{Default, Index, Full, Nothing}
use Rattle.filter_tree.specs.declared.table.UniqueIndex.{UniqueIndex}
use Rattle.pub_reader.specs.Grammar.k
use Rattle.pub_reader.specs.Grammar.i
use Rattle.pub_reader.specs.Grammar.w
use Rattle.pub_reader.specs.Grammar.{Item, PlacedName, Rule, Verdict, fault, ◌>>=◌, ◌>>◌, pure, check, refuse, refuse_as, advance, eat, expect, item_ahead, name}
use Rattle.sql_reader.specs.declared.error.Omitted.TheVariants.{Clause}
use Rattle.pub_catalog.specs.Catalogs.{columns_at, indexes_at, identified}
use Rattle.pub_catalog.specs.IndexIdentities.{identifies}
use Rattle.pub_reader.specs.Drafts.{DraftOf, find_index}
use Rattle.pub_reader.specs.TableNames.{table_number}

-- no other action is supported
abbrev pub action_by : Option Item → Rule (Unit {0})
action_by (Some (i.Keyword k.Replica)) = advance
action_by (Some (i.Keyword keyword)) = refuse_as (w.LeftOut Clause)
action_by (Some i.Word) = refuse_as (w.LeftOut Clause)
action_by _ = refuse

unfoldable pub action : Rule (Unit {0})
action ts = action_by (item_ahead ts) ts

-- ---- by an index

-- the identity by the index with this number, which must exist and identify rows
abbrev pub by_index : List Column → List UniqueIndex → PlacedName → Option ℕ → Verdict Identity
by_index columns indexes called None = Err (fault called.place w.UnknownName)
by_index columns indexes called (Some number) =
    if identifies columns (slice_get indexes number) then
    Ok (Index number) else Err (fault called.place w.NullableIndex)

-- the identity by the index of this name; the table has these columns and indexes
unfoldable pub index_named : List Column → List UniqueIndex → PlacedName → Verdict Identity
index_named columns indexes called = by_index columns indexes called (find_index called.text indexes)

unfoldable pub using_index : List Column → List UniqueIndex → Rule Identity
using_index columns indexes = do
  expect (i.Keyword k.Using)
  expect (i.Keyword k.Index)
  called ← name
  check (index_named columns indexes called)

-- ---- the identity of a table that has these columns and indexes

abbrev pub identity_by : List Column → List UniqueIndex → Option Item → Rule Identity
identity_by columns indexes (Some (i.Keyword k.Default)) = advance >> pure Default
identity_by columns indexes (Some (i.Keyword k.Full)) = advance >> pure Full
identity_by columns indexes (Some (i.Keyword k.Nothing)) = advance >> pure Nothing
identity_by columns indexes (Some (i.Keyword k.Using)) = using_index columns indexes
identity_by columns indexes _ = refuse

unfoldable pub identity : List Column → List UniqueIndex → Rule Identity
identity columns indexes ts = identity_by columns indexes (item_ahead ts) ts

unfoldable pub replica_identity : List Column → List UniqueIndex → Rule Identity
replica_identity columns indexes = action >> expect (i.Keyword k.Identity) >> identity columns indexes

unfoldable pub alter_table : {S : Type 0} → DraftOf S → Rule (DraftOf S)
alter_table draft = do
  expect (i.Keyword k.Alter)
  expect (i.Keyword k.Table)
  -- ONLY excludes the tables that inherit from a table, of which there are none
  eat (i.Keyword k.Only)
  number ← table_number draft
  recorded ← replica_identity (columns_at draft.tables number) (indexes_at draft.tables number)
  pure (record draft { tables = identified draft.tables number recorded })

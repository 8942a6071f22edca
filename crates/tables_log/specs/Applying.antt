-- What commands do to the rows of one table and of all: PostgreSQL 15, Chapter 6 Data Manipulation, and SQL Commands,
-- TRUNCATE.
use Rattle.std.specs.Prelude.{◌≡◌, ℕ, ◌≤◌, List, map, length, slice_get, is_some, Option, Some, None, Result, IfOk}
use Rattle.filter_tree.specs.Datum.{Datum}
use Rattle.filter_tree.specs.declared.table.Table.{Table}
use Rattle.replica_identity.specs.ChangeView.{change_view}
use Rattle.replica_identity.specs.Parts.{part_in}
use Rattle.replica_identity.specs.Setting.{keys_in}
use Rattle.replica_identity.specs.declared.change.Change.{Change}
use Rattle.table_changes.specs.Commands.{Command, CommandFault, NoSuchRow, DuplicateKey, unless, fault_of, applied}
use Rattle.table_changes.specs.Keys.{UniqueKey}
use Rattle.table_changes.specs.Records.{ChangeOf, change_of}
use Rattle.table_changes.specs.Records as r
use Rattle.table_changes.specs.Setting.{Setting}
use Rattle.table_changes.specs.Tables.{SameTables, is_free_from}
use Rattle.tables_log.specs.Faults.{Finds}
use Rattle.tables_log.specs.Places.{Places, put_at, values_in, seen_at, seen_in, widths, KeepsRows, KeepsTables, PutsRow}
use Rattle.tables_log.specs.Sendable.{IsSendableRow, IsSendableChange}
use Rattle.tables_log.specs.declared.error.Refused.{Refused}
use Rattle.tables_log.specs.declared.table_rows.TableRows.{TableRows}

-- ---- one table, which exists

-- without the row that was found, if any
abbrev pub without_at : List UniqueKey → Places → Option (List Datum) → Places
without_at keys places None = places
without_at keys places (Some row) = put_at places (values_in keys row) None

abbrev pub unless_taken : List UniqueKey → Places → List Datum → Option CommandFault
unless_taken keys places row = unless (is_free_from places 0 keys row) DuplicateKey None

abbrev pub delete_fault : Places → List Datum → Option CommandFault
delete_fault places key = unless (is_some (places 0 key)) NoSuchRow None

abbrev pub replace_fault : List UniqueKey → Places → List Datum → List Datum → Option CommandFault
replace_fault keys places key row =
    unless (is_some (places 0 key)) NoSuchRow (unless_taken keys (without_at keys places (places 0 key)) row)

-- the old row is removed, and then the new one is put there
pub record ReplacesRow (old new : TableRows) (keys : List UniqueKey) (gone row : List Datum) : Type 0 where
  pub sees : (number : ℕ) (value : List Datum) → seen_at new.maps.items number value
      ≡ put_at (put_at (seen_at old.maps.items) (values_in keys gone) None) (values_in keys row) (Some row) number value

-- ---- what a command does in the table with this number, and what is recorded of it

pub record InsertsRow (table : Table) (number : ℕ) (old new : TableRows) (row : List Datum) (change : ChangeOf) : Type
    0 where
  pub puts : PutsRow old new (values_in (keys_in (Some table)) row) (Some row)
  pub sendable : IsSendableRow row
  pub records : change ≡ r.Insert number row

pub record DeletesRow (table : Table) (number : ℕ) (old new : TableRows) (key : List Datum) (change : ChangeOf) : Type
    0 where
  pub gone : List Datum
  pub found : seen_at old.maps.items 0 key ≡ Some gone
  pub puts : PutsRow old new (values_in (keys_in (Some table)) gone) None
  pub gone_sendable : IsSendableRow gone
  pub records : change ≡ r.Delete number (part_in table gone None)

pub record UpdatesRow (table : Table) (number : ℕ) (old new : TableRows) (key row : List Datum) (change : ChangeOf) :
    Type 0 where
  pub gone : List Datum
  pub found : seen_at old.maps.items 0 key ≡ Some gone
  pub puts : ReplacesRow old new (keys_in (Some table)) gone row
  pub gone_sendable : IsSendableRow gone
  pub sendable : IsSendableRow row
  pub records : change ≡ r.Update number (part_in table gone (Some row)) row

-- ---- what calls on one table return and leave: this fault, if there is one, and what was kept stays

-- a value is returned only if it is such a one
pub record TriesRows {V : Type 0} (refusal : Option CommandFault) (IsGood : V → Type 0) (old : TableRows)
    (result : Result V Refused) (new : TableRows) : Type 0 where
  pub fault : Finds refusal result
  pub keeps : KeepsRows old new
  pub ok : IfOk result IsGood

-- the row of this primary key is returned, if this is done to the rows with it
pub record TakesRow (refusal : Option CommandFault) (key : List Datum) (IsDone : List Datum → Type 0)
    (old : TableRows) (result : Result (List Datum) Refused) (new : TableRows) : Type 0 where
  pub fault : Finds refusal result
  pub keeps : KeepsRows old new
  pub found : IfOk result (λ gone. seen_at old.maps.items 0 key ≡ Some gone)
  pub puts : IfOk result IsDone

-- ---- all tables of a catalog

-- at most 64 tables, of at most 100 columns
pub record IsNarrow (tables : List Table) : Type 0 where
  pub few : length tables ≤ 64
  pub narrow : (number : ℕ) (table : Table) → slice_get tables number ≡ Some table → length table.columns ≤ 100

-- a map for each unique key of each table
abbrev pub widths_of : List Table → List ℕ
widths_of tables = map (λ table. length (keys_in (Some table))) tables

pub record HasMaps (tables : List Table) (rows : List TableRows) : Type 0 where
  pub narrow : IsNarrow tables
  pub wide : widths rows ≡ widths_of tables

-- The command has no fault, and leaves these rows and this change, which can be sent.
pub record Applies (setting : Setting) (old new : List TableRows) (command : Command) (change : ChangeOf) : Type 0 where
  pub no_fault : fault_of setting (seen_in old) command ≡ None
  pub leaves : SameTables (seen_in new) (applied setting (seen_in old) command)
  pub records : change ≡ change_of setting (seen_in old) command
  pub sendable : IsSendableChange change

-- The command is applied, or an error is its fault or out of memory. What was kept stays.
pub record Tries (setting : Setting) (command : Command) (old : List TableRows) (result : Result Change Refused)
    (new : List TableRows) : Type 0 where
  pub fault : Finds (fault_of setting (seen_in old) command) result
  pub keeps : KeepsTables old new
  pub ok : IfOk result (λ change. Applies setting old new command (change_view change))

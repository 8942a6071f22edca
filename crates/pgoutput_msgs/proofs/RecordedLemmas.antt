-- What commands without a fault record is of existing tables.
use Rattle.std.proofs.Common.{◌≡◌, ℕ, ◌+◌, ◌<◌, Bool, true, false, List, [], ◌∷◌, ◌++◌, length, refl, sym, subst}
use Rattle.std.specs.Prelude.{Option, None, All, fold, nat_eq, if◌then◌else◌}
use Rattle.std.specs.List.{list_any, list_all}
use Rattle.std.proofs.lemmas.Bool.{and_parts, ltb-true}
use Rattle.std.proofs.lemmas.List.Elements.{All-nil, All-cons, All-head, All-tail, All-push}
use Rattle.filter_tree.specs.Lists.{with_item, distinct}
use Rattle.shard_checker.specs.CheckedView.{CheckedOf, setting_in}
use Rattle.table_changes.specs.Commands as c
use Rattle.table_changes.specs.Commands.{CommandFault, NoTable, Command, unless, all_known, fault_of, applied, first_fault}
use Rattle.table_changes.specs.Records.{change_of, record_of}
use Rattle.table_changes.specs.Tables.{Tables, no_rows}
use Rattle.table_changes.proofs.ChangeLemmas.{not_numbered}
use Rattle.tables_log.specs.BookView.{book_checked}
use Rattle.tables_log.specs.Commits.{commit_of}
use Rattle.tables_log.specs.StandsFor.{Transaction, left_by, AreAccepted, entries_from}
use Rattle.pgoutput_msgs.specs.Introducing.{IsChangeOf, IsOf, RecordsAreOfTables, LogsAreOfTables}

-- ---- numbers, each once

with_one_if : (P : ℕ → Type 0) (has : Bool) (numbers : List ℕ) (number : ℕ) → All P numbers → P number
    → All P (if has then numbers else numbers ++ number ∷ [])
with_one_if P true numbers number all one = all
with_one_if P false numbers number all one = All-push P numbers number all one

all_of_fold : (P : ℕ → Type 0) (numbers more : List ℕ) → All P numbers → All P more
    → All P (fold (with_item nat_eq) numbers more)
all_of_fold P numbers [] all later = all
all_of_fold P numbers (number ∷ more) all later =
    all_of_fold P (with_item nat_eq numbers number) more
    (with_one_if P (list_any (nat_eq number) numbers) numbers number all (All-head P number more later))
    (All-tail P number more later)

all_distinct : (P : ℕ → Type 0) (numbers : List ℕ) → All P numbers → All P (distinct nat_eq numbers)
all_distinct P numbers all = all_of_fold P [] numbers (All-nil P) all

-- ---- tables that exist

-- if there is no fault, the test for it holds
no_fault : (test : Bool) (fault : CommandFault) (next : Option CommandFault) → unless test fault next ≡ None
    → test ≡ true
no_fault true fault next h = refl
no_fault false fault next h = absurd cc

module _ (checked : CheckedOf) where
  abbrev IsTable : ℕ → Type 0
  IsTable table = table < length checked.catalog.tables

  known_table : (table : ℕ) → (setting_in checked).known table ≡ true → IsTable table
  known_table table h = ltb-true table (length checked.catalog.tables) h

  one_table : (table : ℕ) (next : Option CommandFault) → unless ((setting_in checked).known table) NoTable next ≡ None
      → All IsTable (table ∷ [])
  one_table table next h =
      All-cons IsTable table [] (known_table table (no_fault ((setting_in checked).known table) NoTable next h))
      (All-nil IsTable)

  each_table : (numbers : List ℕ) → list_all (setting_in checked).known numbers ≡ true → All IsTable numbers
  each_table [] h = All-nil IsTable
  each_table (number ∷ numbers) h =
      let parts = and_parts ((setting_in checked).known number) (list_all (setting_in checked).known numbers) h in
      All-cons IsTable number numbers (known_table number parts.0) (each_table numbers parts.1)

  known_tables : (numbers : List ℕ) → all_known (setting_in checked) numbers ≡ true → All IsTable numbers
  known_tables [] h = All-nil IsTable
  known_tables (number ∷ numbers) h = each_table (number ∷ numbers) h

  change_of_tables : (tables : Tables) (command : Command) → fault_of (setting_in checked) tables command ≡ None
      → IsChangeOf checked.catalog.tables (change_of (setting_in checked) tables command)
  change_of_tables tables (c.Insert table row) h = one_table table _ h
  change_of_tables tables (c.Update table key row) h = one_table table _ h
  change_of_tables tables (c.Delete table key) h = one_table table _ h
  change_of_tables tables (c.Truncate numbers) h =
      all_distinct IsTable numbers
      (known_tables numbers (no_fault (all_known (setting_in checked) numbers) NoTable None h))

pub records_of_tables : RecordsAreOfTables
records_of_tables checked tables number [] h = All-nil (IsChangeOf checked.catalog.tables)
records_of_tables checked tables number (command ∷ commands) h =
    let setting = setting_in checked in
    let parts = not_numbered number (fault_of setting tables command)
    (first_fault setting (applied setting tables command) (number + 1) commands) h in
    All-cons (IsChangeOf checked.catalog.tables) (change_of setting tables command)
    (record_of setting (applied setting tables command) commands)
    (change_of_tables checked tables command parts.0)
    (records_of_tables checked (applied setting tables command) (number + 1) commands parts.1)

entries_of_tables : (checked : CheckedOf) (tables : Tables) (number : ℕ) (transactions : List Transaction)
    → AreAccepted (setting_in checked) tables transactions
    → All (IsOf checked.catalog.tables) (entries_from (setting_in checked) tables number transactions)
entries_of_tables checked tables number [] h = All-nil (IsOf checked.catalog.tables)
entries_of_tables checked tables number (transaction ∷ transactions) h =
    let setting = setting_in checked in
    All-cons (IsOf checked.catalog.tables)
    (commit_of number transaction.time (record_of setting tables transaction.commands))
    (entries_from setting (left_by setting tables transaction) (number + 1) transactions)
    (records_of_tables checked tables 1 transaction.commands h.0.no_fault)
    (entries_of_tables checked (left_by setting tables transaction) (number + 1) transactions h.1)

pub logs_of_tables : LogsAreOfTables
logs_of_tables book transactions stands =
    subst (All (IsOf (book_checked book).catalog.tables)) (sym stands.log)
    (entries_of_tables (book_checked book) no_rows 1 transactions stands.accepted)

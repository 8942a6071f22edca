-- Which tables commands name, and what is kept of them and of the others once they settle: PostgreSQL 15, 3.4.
-- Transactions.
use Rattle.std.specs.Prelude.{◌≡◌, ℕ, ◌==◌, Bool, false, ◌||◌, List, [], ◌∷◌, if◌then◌else◌}
use Rattle.std.specs.List.{list_any}
use Rattle.filter_tree.specs.Datum.{Datum}
use Rattle.table_changes.specs.Tables.{SameTables}
use Rattle.table_changes.specs.declared.command.Command.{Command}
use Rattle.table_changes.specs.declared.command.Command.TheVariants.{Insert, Update, Delete, Truncate}
use Rattle.tables_log.specs.Places.{kept_in, seen_in, widths}
use Rattle.tables_log.specs.declared.table_rows.TableRows.{TableRows}

-- ---- which tables are named

abbrev pub is_in : List ℕ → ℕ → Bool
is_in numbers table = list_any (λ number. number == table) numbers

abbrev pub names : Command → ℕ → Bool
names (Insert number row) table = number == table
names (Update number key row) table = number == table
names (Delete number key) table = number == table
names (Truncate numbers) table = is_in numbers.items table

abbrev pub are_named : List Command → ℕ → Bool
are_named [] table = false
are_named (command ∷ commands) table = names command table || are_named commands table

-- ---- what is kept

-- all that is seen
abbrev pub IsSettled : List TableRows → Type 0
IsSettled tables = SameTables (kept_in tables) (seen_in tables)

-- all that is seen of other tables than these
abbrev pub IsSettledBut : (ℕ → Bool) → List TableRows → Type 0
IsSettledBut named tables = (table : ℕ) → named table ≡ false → (key : ℕ) (value : List Datum)
    → kept_in tables table key value ≡ seen_in tables table key value

-- what was seen of these tables is kept, and what was kept of the others
pub record SettlesNamed (old new : List TableRows) (named : ℕ → Bool) : Type 0 where
  pub keeps : (table key : ℕ) (value : List Datum)
      → kept_in new table key value
      ≡ (if named table then seen_in old table key value else kept_in old table key value)
  pub sees : SameTables (seen_in new) (seen_in old)
  pub width : widths new ≡ widths old

abbrev pub SettlesOne : List TableRows → List TableRows → ℕ → Type 0
SettlesOne old new number = SettlesNamed old new (λ table. number == table)

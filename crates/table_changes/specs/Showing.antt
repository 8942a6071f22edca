-- That whoever follows the record of commands gets what it sees of the commands: PostgreSQL 15, "Logical
-- Replication", 31.3.2 Expression Restrictions and 31.3.3 UPDATE Transformations.
use Rattle.std.specs.Prelude.{◌≡◌, ℕ, List, map, filter_map, option_map, None}
use Rattle.table_changes.specs.Commands.{Command, first_fault}
use Rattle.table_changes.specs.Outs.{got, as_recorded}
use Rattle.table_changes.specs.Records.{record_of}
use Rattle.table_changes.specs.Seen.{seen_each, seen}
use Rattle.table_changes.specs.Setting.{Setting}
use Rattle.table_changes.specs.Standing.{Covered}
use Rattle.table_changes.specs.Tables.{Tables}

-- From each change of the record of commands without a fault a subscriber gets what it sees of the command at that
-- position, and nothing if it sees nothing.
abbrev pub RecordShows : Type 0
RecordShows = (setting : Setting) → Covered setting
    → (subscriber : ℕ) (tables : Tables) (number : ℕ) (commands : List Command)
    → first_fault setting tables number commands ≡ None
    → map (got setting subscriber) (record_of setting tables commands)
    ≡ map (option_map (as_recorded setting)) (seen_each setting subscriber tables commands)

-- So from the whole record it gets what it sees of the commands, in their order.
abbrev pub RecordShowsAll : Type 0
RecordShowsAll = (setting : Setting) → Covered setting
    → (subscriber : ℕ) (tables : Tables) (number : ℕ) (commands : List Command)
    → first_fault setting tables number commands ≡ None
    → filter_map (got setting subscriber) (record_of setting tables commands)
    ≡ map (as_recorded setting) (seen setting subscriber tables commands)

-- How lists of commands continue, and what tables with the same rows have in common: PostgreSQL 15, Chapter 6 Data
-- Manipulation.
use Rattle.std.specs.Prelude.{◌≡◌, ℕ, ◌+◌, List, [], ◌∷◌, ◌++◌, length, Some, None}
use Rattle.filter_tree.specs.Datum.{Datum}
use Rattle.table_changes.specs.Commands.{Command, CommandFault, fault_of, applied, all_applied, numbered, first_fault}
use Rattle.table_changes.specs.Records.{change_of, record_of}
use Rattle.table_changes.specs.Seen.{seen_each}
use Rattle.table_changes.specs.Setting.{Setting}
use Rattle.table_changes.specs.Tables.{Tables, SameTables, holds, Stands}

-- commands find and do the same
pub record AreAlike (setting : Setting) (one other : Tables) : Type 0 where
  pub standing : Stands setting.keys one → Stands setting.keys other
  pub holding : (table : ℕ) (row : List Datum) → holds setting.keys one table row ≡ holds setting.keys other table row
  pub fault : (command : Command) → fault_of setting one command ≡ fault_of setting other command
  pub left : (command : Command) → SameTables (applied setting one command) (applied setting other command)
  pub change : (command : Command) → change_of setting one command ≡ change_of setting other command
  pub first : (number : ℕ) (commands : List Command)
      → first_fault setting one number commands ≡ first_fault setting other number commands
  pub all_left : (commands : List Command)
      → SameTables (all_applied setting one commands) (all_applied setting other commands)
  pub recorded : (commands : List Command) → record_of setting one commands ≡ record_of setting other commands
  pub sees : (subscriber : ℕ) (commands : List Command)
      → seen_each setting subscriber one commands ≡ seen_each setting subscriber other commands

-- Tables with the same row in each place are alike.
abbrev pub SameAreAlike : Type 0
SameAreAlike = (setting : Setting) (one other : Tables) → SameTables one other → AreAlike setting one other

-- after commands without a fault, the fault of one more command
abbrev pub FaultOfOneMore : Type 0
FaultOfOneMore = (setting : Setting) (tables : Tables) (number : ℕ) (commands : List Command) (command : Command)
    → first_fault setting tables number commands ≡ None
    → first_fault setting tables number (commands ++ command ∷ [])
    ≡ numbered (number + length commands) (fault_of setting (all_applied setting tables commands) command) None

-- after a fault no command changes which is the first
abbrev pub FirstFaultStays : Type 0
FirstFaultStays = (setting : Setting) (tables : Tables) (number : ℕ) (commands more : List Command)
    (fault : ℕ × CommandFault) → first_fault setting tables number commands ≡ Some fault
    → first_fault setting tables number (commands ++ more) ≡ Some fault

-- one more command acts on what the others leave
abbrev pub LeftByOneMore : Type 0
LeftByOneMore = (setting : Setting) (tables : Tables) (commands : List Command) (command : Command)
    → all_applied setting tables (commands ++ command ∷ [])
    ≡ applied setting (all_applied setting tables commands) command

-- and is recorded after them
abbrev pub RecordOfOneMore : Type 0
RecordOfOneMore = (setting : Setting) (tables : Tables) (commands : List Command) (command : Command)
    → record_of setting tables (commands ++ command ∷ []) ≡ record_of setting tables commands
    ++ change_of setting (all_applied setting tables commands) command ∷ []

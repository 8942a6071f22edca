-- Lists of commands continue, and tables with the same rows stay alike.
use Rattle.std.proofs.Common.{◌≡◌, ℕ, suc, ◌+◌, ◌&&◌, List, [], ◌∷◌, ◌++◌, length, refl, sym, ◌∙◌, ap, subst, arith}
use Rattle.std.specs.Prelude.{Option, Some, None, ◌==◌, is_none, is_some, if◌then◌else◌}
use Rattle.std.specs.List.{list_any}
use Rattle.filter_tree.specs.Datum.{Datum}
use Rattle.table_changes.specs.Commands.{Command, Insert, Update, Delete, Truncate, CommandFault, NoTable, NoSuchRow, DuplicateKey, unless, unless_unfit, named, fault_of, applied, all_applied, numbered, first_fault}
use Rattle.table_changes.specs.CommandLists.{AreAlike}
use Rattle.table_changes.specs.Keys.{UniqueKey, Keys, key_at}
use Rattle.table_changes.specs.Records.{change_of, record_of, part_found}
use Rattle.table_changes.specs.Records as r
use Rattle.table_changes.specs.Seen.{seen_of, seen_each, seen_rows, passing}
use Rattle.table_changes.specs.Setting.{Setting}
use Rattle.table_changes.specs.Tables.{Tables, SameTables, is_row, is_own, put, without, emptied, found_at, is_free_from, is_free, holds, Stands}

-- ---- tables with the same rows

pub found_alike : (one other : List Datum → Option (List Datum)) → ((value : List Datum) → one value ≡ other value)
    → (key : Option (List Datum)) → found_at one key ≡ found_at other key
found_alike one other same None = refl
found_alike one other same (Some value) = same value

holds_alike : (keys : Keys) (one other : Tables) → SameTables one other → (table : ℕ) (row : List Datum)
    → holds keys one table row ≡ holds keys other table row
holds_alike keys one other same table row =
    ap (λ found. is_row found row)
    (found_alike (one table 0) (other table 0) (same table 0) (key_at keys table 0 row))

stands_alike : (keys : Keys) (one other : Tables) → SameTables one other → Stands keys one → Stands keys other
stands_alike keys one other same stands = record {
  keyed = λ table number value row h. stands.keyed table number value row (same table number value ∙ h);
  whole = λ table number next value another row h k. sym (same table next another)
      ∙ stands.whole table number next value another row (same table number value ∙ h) k;
}

pub free_from_alike : (one other : ℕ → List Datum → Option (List Datum))
    → ((number : ℕ) (value : List Datum) → one number value ≡ other number value)
    → (number : ℕ) (keys : List UniqueKey) (row : List Datum)
    → is_free_from one number keys row ≡ is_free_from other number keys row
free_from_alike one other same number [] row = refl
free_from_alike one other same number (key ∷ keys) row =
    ap (λ found. is_none found && is_free_from one (number + 1) keys row)
    (found_alike (one number) (other number) (same number) (key row))
    ∙ ap (λ b. is_none (found_at (other number) (key row)) && b) (free_from_alike one other same (number + 1) keys row)

free_alike : (keys : Keys) (one other : Tables) → SameTables one other → (table : ℕ) (row : List Datum)
    → is_free keys one table row ≡ is_free keys other table row
free_alike keys one other same table row = free_from_alike (one table) (other table) (same table) 0 (keys table) row

put_alike : (keys : Keys) (one other : Tables) → SameTables one other
    → (table : ℕ) (row : List Datum) (found : Option (List Datum))
    → SameTables (put keys one table row found) (put keys other table row found)
put_alike keys one other same table row found =
    λ u number value. ap (λ o. if is_own keys table row u number value then found else o) (same u number value)

without_alike : (keys : Keys) (one other : Tables) → SameTables one other → (table : ℕ) (found : Option (List Datum))
    → SameTables (without keys one table found) (without keys other table found)
without_alike keys one other same table None = same
without_alike keys one other same table (Some row) = put_alike keys one other same table row None

-- without the row that a key names
unnamed_alike : (keys : Keys) (one other : Tables) → SameTables one other → (table : ℕ) (key : List Datum)
    → SameTables (without keys one table (named one table key)) (without keys other table (named other table key))
unnamed_alike keys one other same table key =
    subst (λ found. SameTables (without keys one table (named one table key)) (without keys other table found))
    (same table 0 key)
    (without_alike keys one other same table (named one table key))

emptied_alike : (one other : Tables) → SameTables one other → (numbers : List ℕ)
    → SameTables (emptied one numbers) (emptied other numbers)
emptied_alike one other same numbers =
    λ u number value. ap (λ o. if list_any (λ table. table == u) numbers then None else o) (same u number value)

fault_alike : (setting : Setting) (one other : Tables) → SameTables one other → (command : Command)
    → fault_of setting one command ≡ fault_of setting other command
fault_alike setting one other same (Insert table row) =
    ap (λ b. unless (setting.known table) NoTable
    (unless_unfit (setting.fault table row) (unless b DuplicateKey None)))
    (free_alike setting.keys one other same table row)
fault_alike setting one other same (Update table key row) =
    ap (λ found. unless (setting.known table) NoTable
    (unless_unfit (setting.fault table row) (unless (is_some found) NoSuchRow
    (unless (is_free setting.keys (without setting.keys one table (named one table key)) table row) DuplicateKey
    None)))) (same table 0 key)
    ∙ ap (λ b. unless (setting.known table) NoTable
    (unless_unfit (setting.fault table row)
    (unless (is_some (named other table key)) NoSuchRow (unless b DuplicateKey None))))
    (free_alike setting.keys (without setting.keys one table (named one table key))
    (without setting.keys other table (named other table key))
    (unnamed_alike setting.keys one other same table key) table row)
fault_alike setting one other same (Delete table key) =
    ap (λ found. unless (setting.known table) NoTable (unless (is_some found) NoSuchRow None)) (same table 0 key)
fault_alike setting one other same (Truncate numbers) = refl

applied_alike : (setting : Setting) (one other : Tables) → SameTables one other → (command : Command)
    → SameTables (applied setting one command) (applied setting other command)
applied_alike setting one other same (Insert table row) = put_alike setting.keys one other same table row (Some row)
applied_alike setting one other same (Update table key row) =
    put_alike setting.keys (without setting.keys one table (named one table key))
    (without setting.keys other table (named other table key))
    (unnamed_alike setting.keys one other same table key) table row (Some row)
applied_alike setting one other same (Delete table key) = unnamed_alike setting.keys one other same table key
applied_alike setting one other same (Truncate numbers) = emptied_alike one other same numbers

change_alike : (setting : Setting) (one other : Tables) → SameTables one other → (command : Command)
    → change_of setting one command ≡ change_of setting other command
change_alike setting one other same (Insert table row) = refl
change_alike setting one other same (Update table key row) =
    ap (λ found. r.Update table (part_found setting table found (Some row)) row) (same table 0 key)
change_alike setting one other same (Delete table key) =
    ap (λ found. r.Delete table (part_found setting table found None)) (same table 0 key)
change_alike setting one other same (Truncate numbers) = refl

seen_alike : (setting : Setting) (subscriber : ℕ) (one other : Tables) → SameTables one other → (command : Command)
    → seen_of setting subscriber one command ≡ seen_of setting subscriber other command
seen_alike setting subscriber one other same (Insert table row) = refl
seen_alike setting subscriber one other same (Update table key row) =
    ap (λ found. seen_rows table (passing (setting.passes subscriber table) found)
    (passing (setting.passes subscriber table) (Some row))) (same table 0 key)
seen_alike setting subscriber one other same (Delete table key) =
    ap (λ found. seen_rows table (passing (setting.passes subscriber table) found) None) (same table 0 key)
seen_alike setting subscriber one other same (Truncate numbers) = refl

-- ---- and commands on them

first_alike : (setting : Setting) (one other : Tables) → SameTables one other → (number : ℕ) (commands : List Command)
    → first_fault setting one number commands ≡ first_fault setting other number commands
first_alike setting one other same number [] = refl
first_alike setting one other same number (command ∷ commands) =
    ap (λ fault. numbered number fault (first_fault setting (applied setting one command) (number + 1) commands))
    (fault_alike setting one other same command)
    ∙ ap (numbered number (fault_of setting other command))
    (first_alike setting (applied setting one command) (applied setting other command)
    (applied_alike setting one other same command) (number + 1) commands)

all_alike : (setting : Setting) (one other : Tables) → SameTables one other → (commands : List Command)
    → SameTables (all_applied setting one commands) (all_applied setting other commands)
all_alike setting one other same [] = same
all_alike setting one other same (command ∷ commands) =
    all_alike setting (applied setting one command) (applied setting other command)
    (applied_alike setting one other same command) commands

record_alike : (setting : Setting) (one other : Tables) → SameTables one other → (commands : List Command)
    → record_of setting one commands ≡ record_of setting other commands
record_alike setting one other same [] = refl
record_alike setting one other same (command ∷ commands) =
    ap (λ change. change ∷ record_of setting (applied setting one command) commands)
    (change_alike setting one other same command)
    ∙ ap (λ changes. change_of setting other command ∷ changes)
    (record_alike setting (applied setting one command) (applied setting other command)
    (applied_alike setting one other same command) commands)

each_alike : (setting : Setting) (subscriber : ℕ) (one other : Tables) → SameTables one other
    → (commands : List Command)
    → seen_each setting subscriber one commands ≡ seen_each setting subscriber other commands
each_alike setting subscriber one other same [] = refl
each_alike setting subscriber one other same (command ∷ commands) =
    ap (λ item. item ∷ seen_each setting subscriber (applied setting one command) commands)
    (seen_alike setting subscriber one other same command)
    ∙ ap (λ items. seen_of setting subscriber other command ∷ items)
    (each_alike setting subscriber (applied setting one command) (applied setting other command)
    (applied_alike setting one other same command) commands)

pub are_alike : (setting : Setting) (one other : Tables) → SameTables one other → AreAlike setting one other
are_alike setting one other same = record {
  standing = λ stands. stands_alike setting.keys one other same stands;
  holding = λ table row. holds_alike setting.keys one other same table row;
  fault = λ command. fault_alike setting one other same command;
  left = λ command. applied_alike setting one other same command;
  change = λ command. change_alike setting one other same command;
  first = λ number commands. first_alike setting one other same number commands;
  all_left = λ commands. all_alike setting one other same commands;
  recorded = λ commands. record_alike setting one other same commands;
  sees = λ subscriber commands. each_alike setting subscriber one other same commands;
}

-- ---- one more command

next_number : (number count : ℕ) → number + 1 + count ≡ number + suc count
next_number number count = omega arith

pub no_more : (number : ℕ) → number ≡ number + 0
no_more number = omega arith

none_before : (number : ℕ) (fault : Option CommandFault) (next : Option (ℕ × CommandFault))
    → numbered number fault next ≡ None → (fault ≡ None) × (next ≡ None)
none_before number None next h = (refl, h)
none_before number (Some fault) next h = absurd cc

pub fault_of_one_more : (setting : Setting) (tables : Tables) (number : ℕ) (commands : List Command)
    (command : Command) → first_fault setting tables number commands ≡ None
    → first_fault setting tables number (commands ++ command ∷ [])
    ≡ numbered (number + length commands) (fault_of setting (all_applied setting tables commands) command) None
fault_of_one_more setting tables number [] command h =
    ap (λ n. numbered n (fault_of setting tables command) None) (no_more number)
fault_of_one_more setting tables number (first ∷ commands) command h =
    let both = none_before number (fault_of setting tables first)
    (first_fault setting (applied setting tables first) (number + 1) commands) h in
    ap (λ fault. numbered number fault
    (first_fault setting (applied setting tables first) (number + 1) (commands ++ command ∷ []))) both.0
    ∙ fault_of_one_more setting (applied setting tables first) (number + 1) commands command both.1
    ∙ ap (λ n. numbered n (fault_of setting (all_applied setting (applied setting tables first) commands) command)
    None) (next_number number (length commands))

later_fault : (number : ℕ) (fault : Option CommandFault) (next longer : Option (ℕ × CommandFault))
    (found : ℕ × CommandFault) → (next ≡ Some found → longer ≡ Some found)
    → numbered number fault next ≡ Some found → numbered number fault longer ≡ Some found
later_fault number None next longer found later h = later h
later_fault number (Some fault) next longer found later h = h

pub first_fault_stays : (setting : Setting) (tables : Tables) (number : ℕ) (commands more : List Command)
    (fault : ℕ × CommandFault) → first_fault setting tables number commands ≡ Some fault
    → first_fault setting tables number (commands ++ more) ≡ Some fault
first_fault_stays setting tables number [] more fault h = absurd cc
first_fault_stays setting tables number (first ∷ commands) more fault h =
    later_fault number (fault_of setting tables first)
    (first_fault setting (applied setting tables first) (number + 1) commands)
    (first_fault setting (applied setting tables first) (number + 1) (commands ++ more)) fault
    (λ later. first_fault_stays setting (applied setting tables first) (number + 1) commands more fault later) h

pub left_by_one_more : (setting : Setting) (tables : Tables) (commands : List Command) (command : Command)
    → all_applied setting tables (commands ++ command ∷ [])
    ≡ applied setting (all_applied setting tables commands) command
left_by_one_more setting tables [] command = refl
left_by_one_more setting tables (first ∷ commands) command =
    left_by_one_more setting (applied setting tables first) commands command

pub record_of_one_more : (setting : Setting) (tables : Tables) (commands : List Command) (command : Command)
    → record_of setting tables (commands ++ command ∷ []) ≡ record_of setting tables commands
    ++ change_of setting (all_applied setting tables commands) command ∷ []
record_of_one_more setting tables [] command = refl
record_of_one_more setting tables (first ∷ commands) command =
    ap (λ changes. change_of setting tables first ∷ changes)
    (record_of_one_more setting (applied setting tables first) commands command)

-- What commands without a fault leave of tables.
use Rattle.std.proofs.Common.{◌≡◌, ℕ, ◌+◌, Bool, true, false, not, ◌&&◌, ◌||◌, List, [], ◌∷◌, refl, sym, ◌∙◌, ap, subst}
use Rattle.std.specs.Prelude.{Option, Some, None, ◌==◌, is_some}
use Rattle.std.specs.List.{list_any}
use Rattle.std.specs.Cmp.{unsigned_Decides}
use Rattle.filter_tree.specs.Datum.{Datum}
use Rattle.filter_tree.specs.Same.{same_row}
use Rattle.filter_tree.specs.declared.validity.RowFault.{RowFault}
use Rattle.filter_tree.proofs.SameLemmas.{equal_from_same_row}
use Rattle.table_changes.specs.Changes.{is_this, is_named, stands_after, BeginsWell}
use Rattle.table_changes.specs.Commands.{Command, Insert, Update, Delete, Truncate, CommandFault, NoTable, NoSuchRow, DuplicateKey, unless, unless_unfit, named, fault_of, applied, all_applied, numbered, first_fault}
use Rattle.table_changes.specs.Setting.{Setting, fits}
use Rattle.table_changes.specs.Keys.{HasPrimaryKeys}
use Rattle.table_changes.specs.Standing.{Apart, AllFit, KeepsApart}
use Rattle.table_changes.specs.Tables.{Tables, is_row, no_rows, without, is_free, holds, Stands}
use Rattle.table_changes.proofs.TableLemmas.{put_keeps, take_keeps, emptied_keeps, holds_with, holds_without, holds_emptied, held, and_true}
use Rattle.filter_tree.proofs.Tests.{both_true, and_false}

pub no_unless : (b : Bool) (fault : CommandFault) (next : Option CommandFault) → unless b fault next ≡ None → (b ≡ true)
    × (next ≡ None)
no_unless true fault next h = (refl, h)
no_unless false fault next h = absurd cc

no_unfit : (fault : Option RowFault) (next : Option CommandFault) → unless_unfit fault next ≡ None → (fault ≡ None)
    × (next ≡ None)
no_unfit None next h = (refl, h)
no_unfit (Some fault) next h = absurd cc

-- ---- what it means that a command has no fault

record MayInsert (setting : Setting) (tables : Tables) (table : ℕ) (row : List Datum) : Type 0 where
  known : setting.known table ≡ true
  fit : setting.fault table row ≡ None
  free : is_free setting.keys tables table row ≡ true

may_insert : (setting : Setting) (tables : Tables) (table : ℕ) (row : List Datum)
    → fault_of setting tables (Insert table row) ≡ None → MayInsert setting tables table row
may_insert setting tables table row h =
    let first = no_unless (setting.known table) NoTable _ h in
    let fit = no_unfit (setting.fault table row) _ first.1 in
    record {
      known = first.0;
      fit = fit.0;
      free =
          (no_unless (is_free setting.keys tables table row) DuplicateKey None fit.1).0;
    }

-- the row that is named is in the table, in the place of the key
pub record IsFound (tables : Tables) (table : ℕ) (key : List Datum) : Type 0 where
  pub row : List Datum
  pub there : named tables table key ≡ Some row

found_by : (tables : Tables) (table : ℕ) (key : List Datum) (found : Option (List Datum))
    → named tables table key ≡ found → is_some found ≡ true → IsFound tables table key
found_by tables table key None is h = absurd cc
found_by tables table key (Some row) is h = record { row = row; there = is }

record MayUpdate (setting : Setting) (tables : Tables) (table : ℕ) (key row : List Datum) : Type 0 where
  known : setting.known table ≡ true
  fit : setting.fault table row ≡ None
  found : IsFound tables table key
  free : is_free setting.keys (without setting.keys tables table (named tables table key)) table row ≡ true

may_update : (setting : Setting) (tables : Tables) (table : ℕ) (key row : List Datum)
    → fault_of setting tables (Update table key row) ≡ None → MayUpdate setting tables table key row
may_update setting tables table key row h =
    let first = no_unless (setting.known table) NoTable _ h in
    let fit = no_unfit (setting.fault table row) _ first.1 in
    let there = no_unless (is_some (named tables table key)) NoSuchRow _ fit.1 in
    record {
      known = first.0;
      fit = fit.0;
      found = found_by tables table key (named tables table key) refl there.0;
      free = (no_unless (is_free setting.keys (without setting.keys tables table (named tables table key)) table row)
          DuplicateKey None there.1).0;
    }

-- the row that UPDATE and DELETE name is in the table
pub update_finds : (setting : Setting) (tables : Tables) (table : ℕ) (key row : List Datum)
    → fault_of setting tables (Update table key row) ≡ None → IsFound tables table key
update_finds setting tables table key row h = (may_update setting tables table key row h).found

pub delete_finds : (setting : Setting) (tables : Tables) (table : ℕ) (key : List Datum)
    → fault_of setting tables (Delete table key) ≡ None → IsFound tables table key
delete_finds setting tables table key h =
    let first = no_unless (setting.known table) NoTable _ h in
    found_by tables table key (named tables table key) refl
    (no_unless (is_some (named tables table key)) NoSuchRow None first.1).0

-- ---- without the row that a key names

without_keeps : (setting : Setting) (tables : Tables) (table : ℕ) (key : List Datum) (found : Option (List Datum))
    → named tables table key ≡ found → Stands setting.keys tables
    → Stands setting.keys (without setting.keys tables table found)
without_keeps setting tables table key None is stands = stands
without_keeps setting tables table key (Some row) is stands = take_keeps setting.keys tables table 0 key row stands is

holds_after : (setting : Setting) → HasPrimaryKeys setting.keys → (tables : Tables) → Stands setting.keys tables
    → (table : ℕ) (key : List Datum) (found : Option (List Datum))
    → named tables table key ≡ found → (other : ℕ) (another : List Datum)
    → holds setting.keys (without setting.keys tables table found) other another
    ≡ (holds setting.keys tables other another && not ((table == other) && is_row found another))
holds_after setting keyed tables stands table key None is other another =
    sym (and_true (holds setting.keys tables other another))
    ∙ ap (λ b. holds setting.keys tables other another && not b) (sym (and_false (table == other)))
holds_after setting keyed tables stands table key (Some row) is other another =
    holds_without setting.keys keyed tables stands table 0 key row is other another

-- ---- which rows exist

pub rows_stand : (setting : Setting) → HasPrimaryKeys setting.keys → (tables : Tables) (command : Command)
    → fault_of setting tables command ≡ None → Stands setting.keys tables
    → (table : ℕ) (row : List Datum)
    → holds setting.keys (applied setting tables command) table row ≡ stands_after setting tables command table row
rows_stand setting keyed tables (Insert table row) h stands other another =
    holds_with setting.keys keyed tables table row (may_insert setting tables table row h).free other another
rows_stand setting keyed tables (Update table key row) h stands other another =
    holds_with setting.keys keyed (without setting.keys tables table (named tables table key)) table row
    (may_update setting tables table key row h).free other another
    ∙ ap (λ b. is_this table row other another || b)
    (holds_after setting keyed tables stands table key (named tables table key) refl other another)
rows_stand setting keyed tables (Delete table key) h stands other another =
    holds_after setting keyed tables stands table key (named tables table key) refl other another
rows_stand setting keyed tables (Truncate numbers) h stands other another =
    holds_emptied setting.keys keyed tables numbers other another

-- ---- rows stay where they belong

pub keeps_keyed : (setting : Setting) (tables : Tables) (command : Command) → fault_of setting tables command ≡ None
    → Stands setting.keys tables → Stands setting.keys (applied setting tables command)
keeps_keyed setting tables (Insert table row) h stands =
    put_keeps setting.keys tables table row stands (may_insert setting tables table row h).free
keeps_keyed setting tables (Update table key row) h stands =
    put_keeps setting.keys (without setting.keys tables table (named tables table key)) table row
    (without_keeps setting tables table key (named tables table key) refl stands)
    (may_update setting tables table key row h).free
keeps_keyed setting tables (Delete table key) h stands =
    without_keeps setting tables table key (named tables table key) refl stands
keeps_keyed setting tables (Truncate numbers) h stands = emptied_keeps setting.keys tables numbers stands

pub not_numbered : (number : ℕ) (fault : Option CommandFault) (next : Option (ℕ × CommandFault))
    → numbered number fault next ≡ None → (fault ≡ None) × (next ≡ None)
not_numbered number None next h = (refl, h)
not_numbered number (Some fault) next h = absurd cc

pub stay_keyed : (setting : Setting) (tables : Tables) (number : ℕ) (commands : List Command)
    → first_fault setting tables number commands ≡ None
    → Stands setting.keys tables → Stands setting.keys (all_applied setting tables commands)
stay_keyed setting tables number [] h stands = stands
stay_keyed setting tables number (command ∷ commands) h stands =
    let both = not_numbered number (fault_of setting tables command)
    (first_fault setting (applied setting tables command) (number + 1) commands) h in
    stay_keyed setting (applied setting tables command) (number + 1) commands both.1
    (keeps_keyed setting tables command both.0 stands)

-- ---- rows fit

left_of : (p q : Bool) → (p && q) ≡ true → p ≡ true
left_of true q h = refl
left_of false q h = absurd cc

either : {P : Type 0} (p q : Bool) → (p || q) ≡ true → (p ≡ true → P) → (q ≡ true → P) → P
either true q h at_left at_right = at_left refl
either false q h at_left at_right = at_right h

fits_by : (setting : Setting) (table : ℕ) (row : List Datum) → setting.known table ≡ true
    → setting.fault table row ≡ None → fits setting table row ≡ true
fits_by setting table row known fit = rw (known, fit) refl

this_fits : (setting : Setting) (table : ℕ) (row : List Datum) (other : ℕ) (another : List Datum)
    → is_this table row other another ≡ true → fits setting table row ≡ true → fits setting other another ≡ true
this_fits setting table row other another h fit =
    let both = both_true (table == other) (same_row row another) h in
    subst (λ t. fits setting t another ≡ true) ((unsigned_Decides table other).0 both.0)
    (subst (λ r. fits setting table r ≡ true) (equal_from_same_row row another both.1) fit)

-- a row that exists after a command existed before, or fits its table
came_from : {P : Type 0} (setting : Setting) (tables : Tables) (command : Command)
    → fault_of setting tables command ≡ None → (table : ℕ) (row : List Datum)
    → stands_after setting tables command table row ≡ true → (fits setting table row ≡ true → P)
    → (holds setting.keys tables table row ≡ true → P) → P
came_from setting tables (Insert table row) h other another after fit there =
    let may = may_insert setting tables table row h in
    either (is_this table row other another) (holds setting.keys tables other another) after
    (λ new. fit (this_fits setting table row other another new (fits_by setting table row may.known may.fit)))
    (λ old. there old)
came_from setting tables (Update table key row) h other another after fit there =
    let may = may_update setting tables table key row h in
    either (is_this table row other another)
    (holds setting.keys tables other another && not (is_named tables table key other another)) after
    (λ new. fit (this_fits setting table row other another new (fits_by setting table row may.known may.fit)))
    (λ old. there (left_of (holds setting.keys tables other another) (not (is_named tables table key other another))
    old))
came_from setting tables (Delete table key) h other another after fit there =
    there (left_of (holds setting.keys tables other another) (not (is_named tables table key other another)) after)
came_from setting tables (Truncate numbers) h other another after fit there =
    there (left_of (holds setting.keys tables other another) (not (list_any (λ table. table == other) numbers)) after)

pub is_new_or_old : {P : Type 0} (setting : Setting) → HasPrimaryKeys setting.keys
    → (tables : Tables) (command : Command) → fault_of setting tables command ≡ None → Stands setting.keys tables
    → (table : ℕ) (row : List Datum) → holds setting.keys (applied setting tables command) table row ≡ true
    → (fits setting table row ≡ true → P) → (holds setting.keys tables table row ≡ true → P) → P
is_new_or_old setting keyed tables command h stands table row after fit there =
    came_from setting tables command h table row
    (sym (rows_stand setting keyed tables command h stands table row) ∙ after) fit there

pub stay_fit : (setting : Setting) → HasPrimaryKeys setting.keys
    → (tables : Tables) (number : ℕ) (commands : List Command) → first_fault setting tables number commands ≡ None
    → Stands setting.keys tables → AllFit setting tables → AllFit setting (all_applied setting tables commands)
stay_fit setting keyed tables number [] h stands fit = fit
stay_fit setting keyed tables number (command ∷ commands) h stands fit =
    let both = not_numbered number (fault_of setting tables command)
    (first_fault setting (applied setting tables command) (number + 1) commands) h in
    stay_fit setting keyed (applied setting tables command) (number + 1) commands both.1
    (keeps_keyed setting tables command both.0 stands)
    (λ table row there. is_new_or_old setting keyed tables command both.0 stands table row there (λ new. new)
    (λ old. fit table row old))

-- ---- rows stay distinct

pub stay_apart : (setting : Setting) → KeepsApart setting → (tables : Tables) (number : ℕ) (commands : List Command)
    → first_fault setting tables number commands ≡ None
    → Stands setting.keys tables → Apart setting tables → Apart setting (all_applied setting tables commands)
stay_apart setting keeps tables number [] h stands apart = apart
stay_apart setting keeps tables number (command ∷ commands) h stands apart =
    let both = not_numbered number (fault_of setting tables command)
    (first_fault setting (applied setting tables command) (number + 1) commands) h in
    stay_apart setting keeps (applied setting tables command) (number + 1) commands both.1
    (keeps_keyed setting tables command both.0 stands) (keeps.kept tables command both.0 stands apart)

-- ---- tables without rows

none_held : (setting : Setting) (table : ℕ) (row : List Datum) → holds setting.keys no_rows table row ≡ true → ⊥
none_held setting table row h = let at = (held setting.keys no_rows table row h).there in cc

pub begins_well : (setting : Setting) → BeginsWell setting
begins_well setting = record {
  keyed = record {
    keyed = λ table number value row h. absurd cc;
    whole =
        λ table number other value another row h k. absurd cc;
  };
  fit = λ table row h. absurd (none_held setting table row h);
  apart = λ table one other h k e. absurd (none_held setting table one h);
}

-- Whoever follows the record of commands gets what it sees of the commands.
use Rattle.std.proofs.Common.{◌≡◌, ℕ, ◌+◌, Bool, true, false, List, [], ◌∷◌, map, refl, sym, ◌∙◌, ap, subst}
use Rattle.std.specs.Prelude.{Option, Some, None, nat_eq, filter, filter_map, option_map, if◌then◌else◌}
use Rattle.std.specs.List.{list_any, cons_option}
use Rattle.filter_tree.specs.Datum.{Datum}
use Rattle.filter_tree.specs.Lists.{distinct}
use Rattle.filter_tree.specs.Same.{same_row}
use Rattle.filter_tree.proofs.SameLemmas.{equal_from_same_row}
use Rattle.table_changes.specs.Commands.{Command, Insert, Update, Delete, Truncate, fault_of, applied, first_fault}
use Rattle.table_changes.specs.Outs as o
use Rattle.table_changes.specs.Outs.{asked, out_by, out_gone, stands_for, got, as_recorded}
use Rattle.table_changes.specs.Records as r
use Rattle.table_changes.specs.Records.{part_by, part_of, part_found, change_of, record_of}
use Rattle.table_changes.specs.Seen as s
use Rattle.table_changes.specs.Seen.{passing, seen_rows, seen_tables, seen_of, seen_each, seen}
use Rattle.table_changes.specs.Setting.{Setting, Recorded, Columns, Whole, Nowhere}
use Rattle.table_changes.specs.Standing.{Covered}
use Rattle.table_changes.specs.Tables.{Tables}
use Rattle.table_changes.proofs.ChangeLemmas.{update_finds, delete_finds, not_numbered}
use Rattle.filter_tree.proofs.Tests.{by_test}

-- ---- a row that comes

shows_new : (setting : Setting) (subscriber table : ℕ) (row : List Datum) (b : Bool)
    → option_map (stands_for table (setting.carries subscriber)) (if b then Some (o.Insert row) else None)
    ≡ option_map (as_recorded setting) (seen_rows table None (if b then Some row else None))
shows_new setting subscriber table row true = refl
shows_new setting subscriber table row false = refl

-- ---- a row that goes

-- what is recorded of it passes as it does
record TellsGone (setting : Setting) (table : ℕ) (old : List Datum) : Type 0 where
  part : r.PartOf
  is : part_of setting table old None ≡ Some part
  alike : (subscriber : ℕ)
      → setting.passes subscriber table (asked (Some part) []) ≡ setting.passes subscriber table old

gone_by : (setting : Setting) → Covered setting → (table : ℕ) (old : List Datum) (as_it : Recorded)
    → setting.recorded table ≡ as_it → TellsGone setting table old
gone_by setting covered table old Columns h = record {
  part = r.Key (setting.blanked table old);
  is = ap (λ as_it. part_by as_it (setting.identity table) (setting.blanked table) old None) h;
  alike = λ subscriber. covered.decides subscriber table (setting.blanked table old) old (covered.blanked table old);
}
gone_by setting covered table old Whole h = record {
  part = r.Full old;
  is = ap (λ as_it. part_by as_it (setting.identity table) (setting.blanked table) old None) h;
  alike = λ subscriber. refl;
}
gone_by setting covered table old Nowhere h = absurd (covered.recorded table h)

out_gone_by : (passes : List Datum → Bool) (part : r.PartOf) (b : Bool) → passes (asked (Some part) []) ≡ b
    → out_gone passes (Some part) ≡ (if b then Some (o.Delete (Some part)) else None)
out_gone_by passes (r.Key row) b h = ap (λ c. if c then Some (o.Delete (Some (r.Key row))) else None) h
out_gone_by passes (r.Full row) b h = ap (λ c. if c then Some (o.Delete (Some (r.Full row))) else None) h

gone_as : (setting : Setting) (subscriber table : ℕ) (old : List Datum) (part : r.PartOf) (b : Bool)
    → part_of setting table old None ≡ Some part
    → option_map (stands_for table (setting.carries subscriber)) (if b then Some (o.Delete (Some part)) else None)
    ≡ option_map (as_recorded setting) (seen_rows table (if b then Some old else None) None)
gone_as setting subscriber table old part true h = ap (λ p. Some (r.Delete table p)) (sym h)
gone_as setting subscriber table old part false h = refl

shows_gone : (setting : Setting) → Covered setting → (subscriber table : ℕ) (old : List Datum)
    → option_map (stands_for table (setting.carries subscriber))
    (out_gone (setting.passes subscriber table) (part_of setting table old None))
    ≡ option_map (as_recorded setting) (seen_rows table (passing (setting.passes subscriber table) (Some old)) None)
shows_gone setting covered subscriber table old =
    let tells = gone_by setting covered table old (setting.recorded table) refl in
    ap (λ p. option_map (stands_for table (setting.carries subscriber))
    (out_gone (setting.passes subscriber table) p)) tells.is
    ∙ ap (option_map (stands_for table (setting.carries subscriber)))
    (out_gone_by (setting.passes subscriber table) tells.part (setting.passes subscriber table old)
    (tells.alike subscriber))
    ∙ gone_as setting subscriber table old tells.part (setting.passes subscriber table old) tells.is

-- ---- a row that another replaces

-- the row that is tested passes as the old row does, and a row that goes is recorded like any row that goes
record TellsOld (setting : Setting) (table : ℕ) (old new : List Datum) : Type 0 where
  part : Option r.PartOf
  is : part_of setting table old (Some new) ≡ part
  alike : (subscriber : ℕ) → setting.passes subscriber table (asked part new) ≡ setting.passes subscriber table old
  gone : (subscriber : ℕ) → setting.passes subscriber table old ≡ true → setting.passes subscriber table new ≡ false
      → part ≡ part_of setting table old None

by_columns : (setting : Setting) → Covered setting → (table : ℕ) (old new : List Datum)
    → setting.recorded table ≡ Columns → (b : Bool)
    → same_row (setting.identity table old) (setting.identity table new) ≡ b → TellsOld setting table old new
by_columns setting covered table old new h true same =
    let one : setting.identity table old ≡ setting.identity table new =
    equal_from_same_row (setting.identity table old) (setting.identity table new) same in
    record {
      part = None;
      is = ap (λ as_it. part_by as_it (setting.identity table) (setting.blanked table) old (Some new)) h
          ∙ ap (λ b. if b then None else Some (r.Key (setting.blanked table old))) same;
      alike = λ subscriber. sym (covered.decides subscriber table old new one);
      gone = λ subscriber passes stays. absurd (let alike = covered.decides subscriber table old new one in cc);
    }
by_columns setting covered table old new h false differs = record {
  part = Some (r.Key (setting.blanked table old));
  is = ap (λ as_it. part_by as_it (setting.identity table) (setting.blanked table) old (Some new)) h
      ∙ ap (λ b. if b then None else Some (r.Key (setting.blanked table old))) differs;
  alike = λ subscriber. covered.decides subscriber table (setting.blanked table old) old (covered.blanked table old);
  gone = λ subscriber passes stays. sym
      (ap (λ as_it. part_by as_it (setting.identity table) (setting.blanked table) old None) h);
}

old_by : (setting : Setting) → Covered setting → (table : ℕ) (old new : List Datum) (as_it : Recorded)
    → setting.recorded table ≡ as_it → TellsOld setting table old new
old_by setting covered table old new Columns h =
    by_columns setting covered table old new h (same_row (setting.identity table old) (setting.identity table new)) refl
old_by setting covered table old new Whole h = record {
  part = Some (r.Full old);
  is = ap (λ as_it. part_by as_it (setting.identity table) (setting.blanked table) old (Some new)) h;
  alike = λ subscriber. refl;
  gone = λ subscriber passes stays. sym
      (ap (λ as_it. part_by as_it (setting.identity table) (setting.blanked table) old None) h);
}
old_by setting covered table old new Nowhere h = absurd (covered.recorded table h)

replaced_as : (setting : Setting) (subscriber table : ℕ) (old new : List Datum) (part : Option r.PartOf) (a b : Bool)
    → part_of setting table old (Some new) ≡ part
    → (a ≡ true → b ≡ false → part ≡ part_of setting table old None)
    → option_map (stands_for table (setting.carries subscriber)) (out_by a b part new)
    ≡ option_map (as_recorded setting) (seen_rows table (if a then Some old else None) (if b then Some new else None))
replaced_as setting subscriber table old new part false false h gone = refl
replaced_as setting subscriber table old new part false true h gone = refl
replaced_as setting subscriber table old new part true false h gone = ap (λ p. Some (r.Delete table p)) (gone refl refl)
replaced_as setting subscriber table old new part true true h gone = ap (λ p. Some (r.Update table p new)) (sym h)

shows_replaced : (setting : Setting) → Covered setting → (subscriber table : ℕ) (old new : List Datum)
    → got setting subscriber (r.Update table (part_of setting table old (Some new)) new)
    ≡ option_map (as_recorded setting)
    (seen_rows table (passing (setting.passes subscriber table) (Some old))
    (passing (setting.passes subscriber table) (Some new)))
shows_replaced setting covered subscriber table old new =
    let tells = old_by setting covered table old new (setting.recorded table) refl in
    ap (λ p. got setting subscriber (r.Update table p new)) tells.is
    ∙ ap (λ a. option_map (stands_for table (setting.carries subscriber))
    (out_by a (setting.passes subscriber table new) tells.part new)) (tells.alike subscriber)
    ∙ replaced_as setting subscriber table old new tells.part (setting.passes subscriber table old)
    (setting.passes subscriber table new) tells.is
    (λ passes stays. tells.gone subscriber passes stays)

-- ---- tables that are emptied

seen_some : (carries : ℕ → Bool) (numbers : List ℕ)
    → seen_tables (filter carries numbers)
    ≡ (if list_any carries numbers then Some (s.Truncate (filter carries numbers)) else None)
seen_some carries [] = refl
seen_some carries (number ∷ numbers) = by_test (carries number) (λ h. rw h refl) (λ h. rw h (seen_some carries numbers))

emptied_as : (setting : Setting) (subscriber : ℕ) (numbers : List ℕ) (b : Bool)
    → option_map (stands_for 0 (setting.carries subscriber)) (if b then Some (o.Truncate numbers) else None)
    ≡ option_map (as_recorded setting)
    (if b then Some (s.Truncate (filter (setting.carries subscriber) numbers)) else None)
emptied_as setting subscriber numbers true = refl
emptied_as setting subscriber numbers false = refl

shows_emptied : (setting : Setting) (subscriber : ℕ) (numbers : List ℕ)
    → got setting subscriber (r.Truncate numbers)
    ≡ option_map (as_recorded setting) (seen_tables (filter (setting.carries subscriber) numbers))
shows_emptied setting subscriber numbers =
    emptied_as setting subscriber numbers (list_any (setting.carries subscriber) numbers)
    ∙ ap (option_map (as_recorded setting)) (sym (seen_some (setting.carries subscriber) numbers))

-- ---- commands

shows : (setting : Setting) → Covered setting → (subscriber : ℕ) (tables : Tables) (command : Command)
    → fault_of setting tables command ≡ None
    → got setting subscriber (change_of setting tables command)
    ≡ option_map (as_recorded setting) (seen_of setting subscriber tables command)
shows setting covered subscriber tables (Insert table row) h =
    shows_new setting subscriber table row (setting.passes subscriber table row)
shows setting covered subscriber tables (Update table key row) h =
    subst (λ found. got setting subscriber (r.Update table (part_found setting table found (Some row)) row)
    ≡ option_map (as_recorded setting)
    (seen_rows table (passing (setting.passes subscriber table) found)
    (passing (setting.passes subscriber table) (Some row))))
    (sym (update_finds setting tables table key row h).there)
    (shows_replaced setting covered subscriber table (update_finds setting tables table key row h).row row)
shows setting covered subscriber tables (Delete table key) h =
    subst (λ found. got setting subscriber (r.Delete table (part_found setting table found None))
    ≡ option_map (as_recorded setting) (seen_rows table (passing (setting.passes subscriber table) found) None))
    (sym (delete_finds setting tables table key h).there)
    (shows_gone setting covered subscriber table (delete_finds setting tables table key h).row)
shows setting covered subscriber tables (Truncate numbers) h =
    shows_emptied setting subscriber (distinct nat_eq numbers)

pub record_shows : (setting : Setting) → Covered setting
    → (subscriber : ℕ) (tables : Tables) (number : ℕ) (commands : List Command)
    → first_fault setting tables number commands ≡ None
    → map (got setting subscriber) (record_of setting tables commands)
    ≡ map (option_map (as_recorded setting)) (seen_each setting subscriber tables commands)
record_shows setting covered subscriber tables number [] h = refl
record_shows setting covered subscriber tables number (command ∷ commands) h =
    let both = not_numbered number (fault_of setting tables command)
    (first_fault setting (applied setting tables command) (number + 1) commands) h in
    ap (λ change. change ∷ map (got setting subscriber) (record_of setting (applied setting tables command) commands))
    (shows setting covered subscriber tables command both.0)
    ∙ ap (λ changes. option_map (as_recorded setting) (seen_of setting subscriber tables command) ∷ changes)
    (record_shows setting covered subscriber (applied setting tables command) (number + 1) commands both.1)

-- ---- in their order

cons_same : {A B : Type 0} (f : A → B) (found : Option A) (xs : List A)
    → cons_option (option_map f found) (map f xs) ≡ map f (cons_option found xs)
cons_same f None xs = refl
cons_same f (Some x) xs = refl

somes_of_mapped : {A B : Type 0} (f : A → B) (founds : List (Option A))
    → filter_map (λ found. found) (map (option_map f) founds) ≡ map f (filter_map (λ found. found) founds)
somes_of_mapped f [] = refl
somes_of_mapped f (found ∷ founds) =
    ap (cons_option (option_map f found)) (somes_of_mapped f founds)
    ∙ cons_same f found (filter_map (λ found. found) founds)

somes_of : {A B : Type 0} (f : A → Option B) (xs : List A) → filter_map f xs ≡ filter_map (λ found. found) (map f xs)
somes_of f [] = refl
somes_of f (x ∷ xs) = ap (cons_option (f x)) (somes_of f xs)

pub record_shows_all : (setting : Setting) → Covered setting
    → (subscriber : ℕ) (tables : Tables) (number : ℕ) (commands : List Command)
    → first_fault setting tables number commands ≡ None
    → filter_map (got setting subscriber) (record_of setting tables commands)
    ≡ map (as_recorded setting) (seen setting subscriber tables commands)
record_shows_all setting covered subscriber tables number commands h =
    somes_of (got setting subscriber) (record_of setting tables commands)
    ∙ ap (filter_map (λ found. found)) (record_shows setting covered subscriber tables number commands h)
    ∙ somes_of_mapped (as_recorded setting) (seen_each setting subscriber tables commands)

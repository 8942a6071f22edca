-- A subscriber hears the changes of rows that it sees.
use Rattle.std.proofs.Common.{◌≡◌, ℕ, ◌<◌, Bool, true, false, List, [], ◌∷◌, ◌++◌, length, refl, sym, ◌∙◌, ap, subst}
use Rattle.std.specs.Prelude.{Option, Some, None, Ok, Err, ◌==◌, All, is_some, slice_get, if◌then◌else◌}
use Rattle.std.specs.Cmp.{unsigned_Decides}
use Rattle.std.specs.Option.{option_map}
use Rattle.std.proofs.lemmas.Option.{slice_get_within, same_Some}
use Rattle.std.proofs.lemmas.List.Elements.{All-nil, All-cons}
use Rattle.filter_tree.specs.Datum.{Datum}
use Rattle.filter_tree.specs.Same.{same_row}
use Rattle.filter_tree.specs.Valid.{IsValid}
use Rattle.filter_tree.specs.declared.table.Table.{Table}
use Rattle.filter_tree.proofs.SameLemmas.{equal_from_same_row}
use Rattle.table_changes.specs.Columns.{values_at}
use Rattle.table_changes.specs.Outs.{as_recorded}
use Rattle.table_changes.specs.Records as r
use Rattle.table_changes.specs.Records.{PartOf, part_by, part_of}
use Rattle.table_changes.specs.Seen.{passing, seen_rows}
use Rattle.table_changes.specs.Setting.{Recorded, Columns, Whole, Nowhere, fits}
use Rattle.table_changes.specs.Standing.{Covered}
use Rattle.table_changes.specs.Tables.{Tables}
use Rattle.replica_identity.specs.Parts.{part_in}
use Rattle.replica_identity.specs.Setting.{blanked_in}
use Rattle.replica_identity.proofs.PartLemmas.{records_parts}
use Rattle.shard_checker.specs.CheckedView.{CheckedOf, setting_in}
use Rattle.tables_log.specs.StandsFor.{Transaction}
use Rattle.pgoutput_msgs.specs.ReadBack.{old_cells}
use Rattle.pgoutput_msgs.specs.Telling.{oid_of, old_of, maybe_old_of, relations_of, mark_one, mark_all, said, mark_by}
use Rattle.pgoutput_msgs.specs.ValueText.{cells_of}
use Rattle.pgoutput_msgs.specs.declared.message.Msg.{Msg}
use Rattle.pgoutput_msgs.specs.declared.message.Msg.TheVariants as m
use Rattle.pgoutput_msgs.specs.declared.tuple.OldTuple.{OldTuple}
use Rattle.pgoutput_msgs.proofs.OldRowLemmas.{recorded_back}
use Rattle.pgoutput_msgs.proofs.ReadBackLemmas.{valid_rows_back}
use Rattle.test_subscriber.specs.Hearing.{RowsChange, known_shape, with_found, staged, changed_rows, change_in, hear_in}
use Rattle.test_subscriber.specs.Machine.{Machine}
use Rattle.test_subscriber.specs.RowChanges.{or_bad, read_in, cells_in, key_of, key_in, gone_of, put_new_row, replaced, insert_row, inserted, replace_row, update_row, updated, delete_row, deleted}
use Rattle.test_subscriber.specs.declared.fault.SubFault.TheVariants.{DuplicateKey}
use Rattle.test_subscriber.specs.declared.shape.TableShape.{TableShape}
use Rattle.stream_laws.specs.ShardRows.{FindsRows, in_shard, FindsShard}
use Rattle.stream_laws.specs.Following.{raised_by_message, own_key, Follows}
use Rattle.stream_laws.proofs.CommandSteps.{Steps}
use Rattle.stream_laws.proofs.Inside.{Inside, good, relations_safe, staged_inside, stays_inside}
use Rattle.stream_laws.proofs.KeyLemmas.{row_of, key_at_table, tells_identity}
use Rattle.stream_laws.proofs.RelationSteps.{shape_for, announced_same}
use Rattle.stream_laws.proofs.Safety.{Safe, safe_heard, safe_both}
use Rattle.stream_laws.proofs.SwapLemmas.{Found, put, IsDone, passing_some}
use Rattle.filter_tree.proofs.Tests.{by_test}

-- ---- a change of a table that was announced

table_known : (machine : Machine) (oid : ℕ) (shape : TableShape) → machine.known oid ≡ true
    → machine.kept oid ≡ Some shape → known_shape machine oid ≡ Some shape
table_known machine oid shape known kept = rw known kept

pub change_heard : (machine : Machine) (oid : ℕ) (change : RowsChange) (shape : TableShape) (found : Found)
    → machine.known oid ≡ true → machine.kept oid ≡ Some shape
    → change shape (machine.work oid) ≡ Ok found
    → change_in oid change machine ≡ Ok (record machine { work = with_found machine.work oid found })
change_heard machine oid change shape found known kept made =
    ap (λ table. changed_rows table (machine.work oid) oid change machine) (table_known machine oid shape known kept)
    ∙ ap (staged machine oid) made

-- ---- rows of a table

module _ (checked : CheckedOf) (number : ℕ) (table : Table)
    (there : slice_get checked.catalog.tables number ≡ Some table) where
  key_here : (row : List Datum) → values_at (shape_for number table).key row ≡ own_key checked number row
  key_here row = sym (key_at_table checked number table row there)

  valid_row : (row : List Datum) → fits (setting_in checked) number row ≡ true → IsValid table.columns row
  valid_row row fit =
      let its = row_of checked number row fit in
      subst (λ (t : Table). IsValid t.columns row) (same_Some its.table table (sym its.there ∙ there)) its.valid

  row_read : (row : List Datum) → fits (setting_in checked) number row ≡ true
      → read_in (shape_for number table) (cells_of row) ≡ Ok row
  row_read row fit = ap or_bad (valid_rows_back table.columns row (valid_row row fit))

  placed_free : (found : Found) (key row : List Datum) → found key ≡ None
      → put_new_row found key row ≡ Ok (put found key (Some row))
  placed_free found key row free = ap (λ o. if is_some o then Err DuplicateKey else Ok (put found key (Some row))) free

  insert_made : (found : Found) (new : List Datum) → fits (setting_in checked) number new ≡ true
      → found (own_key checked number new) ≡ None
      → inserted (shape_for number table) found (cells_of new) ≡ Ok (put found (own_key checked number new) (Some new))
  insert_made found new fit free =
      ap (insert_row (shape_for number table) found) (row_read new fit)
      ∙ ap (λ key. put_new_row found key new) (key_here new) ∙ placed_free found (own_key checked number new) new free

  delete_made : (found : Found) (old : List Datum) (tuple : OldTuple)
      → key_in (shape_for number table) tuple ≡ Ok (own_key checked number old)
      → deleted (shape_for number table) found tuple ≡ Ok (put found (own_key checked number old) None)
  delete_made found old tuple h = ap (delete_row found) h

  update_made : (found : Found) (old new : List Datum) (tuple : Option OldTuple)
      → fits (setting_in checked) number new ≡ true
      → gone_of (shape_for number table) tuple new ≡ Ok (own_key checked number old)
      → found (own_key checked number old) ≡ Some old
      → put found (own_key checked number old) None (own_key checked number new) ≡ None
      → updated (shape_for number table) found tuple (cells_of new)
      ≡ Ok (put (put found (own_key checked number old) None) (own_key checked number new) (Some new))
  update_made found old new tuple fit gone is_there free =
      ap (update_row (shape_for number table) found tuple) (row_read new fit)
      ∙ ap (λ key. replace_row (shape_for number table) found key new) gone
      ∙ ap (λ key. replaced found (own_key checked number old) key new) (key_here new)
      ∙ ap (λ o. if is_some o then
      put_new_row (put found (own_key checked number old) None) (own_key checked number new) new else Ok found)
      is_there
      ∙ placed_free (put found (own_key checked number old) None) (own_key checked number new) new free

  cells_same : (part : PartOf) → cells_in (old_of part) ≡ old_cells (old_of part)
  cells_same (r.Key row) = refl
  cells_same (r.Full row) = refl

  -- what is recorded of an old row has its key
  part_read : Covered (setting_in checked) → (old : List Datum) → fits (setting_in checked) number old ≡ true
      → (new : Option (List Datum)) (part : PartOf)
      → part_of (setting_in checked) number old new ≡ Some part
      → key_in (shape_for number table) (old_of part) ≡ Ok (own_key checked number old)
  part_read covered old fit new part h =
      let recorded : part_in table old new ≡ Some part =
      sym (records_parts checked.catalog checked.plan number table there old new) ∙ h in
      ap (λ cells. key_of (shape_for number table) (read_in (shape_for number table) cells)) (cells_same part)
      ∙ ap (λ found. key_of (shape_for number table) (or_bad found))
      (recorded_back table old (valid_row old fit) new part recorded)
      ∙ ap Ok (key_here (blanked_in (Some table) old)
      ∙ ap (λ found. own_key checked number (blanked_in found old)) (sym there)
      ∙ (tells_identity checked covered).blanked number old fit)

-- if nothing is recorded of the old row, the new one has its key
same_key : (checked : CheckedOf) → Covered (setting_in checked) → (number : ℕ) (old new : List Datum)
    → fits (setting_in checked) number old ≡ true → fits (setting_in checked) number new ≡ true
    → part_of (setting_in checked) number old (Some new) ≡ None
    → own_key checked number new ≡ own_key checked number old
same_key checked covered number old new fit also h = by_recorded ((setting_in checked).recorded number) refl h
  where
    by_columns : (kept : Bool)
        → same_row ((setting_in checked).identity number old) ((setting_in checked).identity number new) ≡ kept
        → (if kept then None else Some (r.Key ((setting_in checked).blanked number old))) ≡ None
        → own_key checked number new ≡ own_key checked number old
    by_columns true e k = sym ((tells_identity checked covered).same_key number old new fit also
        (equal_from_same_row ((setting_in checked).identity number old) ((setting_in checked).identity number new) e))
    by_columns false e k = absurd cc

    by_recorded : (as_it : Recorded) → (setting_in checked).recorded number ≡ as_it
        → part_by ((setting_in checked).recorded number) ((setting_in checked).identity number)
        ((setting_in checked).blanked number) old (Some new) ≡ None
        → own_key checked number new ≡ own_key checked number old
    by_recorded Columns e k =
        by_columns (same_row ((setting_in checked).identity number old) ((setting_in checked).identity number new))
        refl
        (sym (ap (λ as_it. part_by as_it ((setting_in checked).identity number) ((setting_in checked).blanked number)
        old (Some new)) e) ∙ k)
    by_recorded Whole e k =
        absurd (let some = sym
        (ap (λ as_it. part_by as_it ((setting_in checked).identity number) ((setting_in checked).blanked number) old
        (Some new)) e) ∙ k in cc)
    by_recorded Nowhere e k = absurd (covered.recorded number e)

-- something is recorded of a row that is removed
record HasPart (checked : CheckedOf) (number : ℕ) (old : List Datum) : Type 0 where
  part : PartOf
  is : part_of (setting_in checked) number old None ≡ Some part

has_part : (checked : CheckedOf) → Covered (setting_in checked) → (number : ℕ) (old : List Datum)
    → HasPart checked number old
has_part checked covered number old = by_recorded ((setting_in checked).recorded number) refl
  where
    by_recorded : (as_it : Recorded) → (setting_in checked).recorded number ≡ as_it → HasPart checked number old
    by_recorded Columns e = record {
      part = r.Key ((setting_in checked).blanked number old);
      is = ap (λ as_it. part_by as_it ((setting_in checked).identity number) ((setting_in checked).blanked number) old
          None) e;
    }
    by_recorded Whole e = record {
      part = r.Full old;
      is = ap (λ as_it. part_by as_it ((setting_in checked).identity number) ((setting_in checked).blanked number) old
          None) e;
    }
    by_recorded Nowhere e = absurd (covered.recorded number e)

-- ---- the messages of a change

module _ (checked : CheckedOf) (transactions : List Transaction) (subscriber begin position : ℕ) (outer : Machine)
    (follows : Follows checked transactions subscriber position outer) (covered : Covered (setting_in checked))
    (before after : Tables)
    (number : ℕ) (table : Table) (there : slice_get checked.catalog.tables number ≡ Some table)
    (old new : Option (List Datum))
    (steps : (copies : ℕ → Found) → FindsShard (setting_in checked) (own_key checked) subscriber copies before
    → Steps (setting_in checked) (own_key checked) subscriber copies after number old new)
    (old_fits : (row : List Datum) → old ≡ Some row → fits (setting_in checked) number row ≡ true)
    (new_fits : (row : List Datum) → new ≡ Some row → fits (setting_in checked) number row ≡ true) where
  done : (away coming : Option (List Datum)) → passing ((setting_in checked).passes subscriber number) old ≡ away
      → passing ((setting_in checked).passes subscriber number) new ≡ coming
      → (sent : List Bool) (machine : Machine) → Inside checked subscriber begin outer sent before machine
      → IsDone (own_key checked number) (machine.work (oid_of number)) away coming
      (in_shard (setting_in checked) subscriber after number)
  done away coming e f sent machine inside =
      subst (λ o. IsDone (own_key checked number) (machine.work (oid_of number)) o coming
      (in_shard (setting_in checked) subscriber after number)) e
      (subst (λ o. IsDone (own_key checked number) (machine.work (oid_of number))
      (passing ((setting_in checked).passes subscriber number) old) o
      (in_shard (setting_in checked) subscriber after number)) f
      (steps (λ t. machine.work (oid_of t)) inside.work).here)

  one_table : All (λ n. n < length checked.catalog.tables) (number ∷ [])
  one_table = All-cons (λ n. n < length checked.catalog.tables) number []
      (slice_get_within checked.catalog.tables number table there) (All-nil (λ n. n < length checked.catalog.tables))

  flag_there : (sent : List Bool) → length sent ≡ length checked.catalog.tables → number < length sent
  flag_there sent long = subst (λ c. number < c) (sym long) (slice_get_within checked.catalog.tables number table there)

  -- the message of a change, if its table was announced
  ends_with : (sent : List Bool) (machine : Machine) (message : Msg) (change : RowsChange) (found : Found)
      → length sent ≡ length checked.catalog.tables
      → Inside checked subscriber begin outer (mark_one sent number) before machine
      → hear_in machine.phase message machine ≡ change_in (oid_of number) change machine
      → change (shape_for number table) (machine.work (oid_of number)) ≡ Ok found
      → FindsRows (own_key checked number) found (in_shard (setting_in checked) subscriber after number)
      → raised_by_message position message ≡ position
      → Safe (Follows checked transactions subscriber) position (message ∷ []) machine
      (λ at next. (at ≡ position) × Inside checked subscriber begin outer (mark_one sent number) after next)
  ends_with sent machine message change found long inside is made finds stays =
      let flag = announced_same sent number (flag_there sent long) in
      safe_heard (Follows checked transactions subscriber)
      (λ at next. (at ≡ position) × Inside checked subscriber begin outer (mark_one sent number) after next)
      position message [] machine (record machine { work = with_found machine.work (oid_of number) found })
      (good checked transactions subscriber begin position outer follows before (mark_one sent number) machine inside)
      (is ∙ change_heard machine (oid_of number) change (shape_for number table) found
      (inside.knows.known number ∙ flag) (inside.knows.kept number table there flag) made) (
        stays,
        staged_inside checked subscriber begin outer (mark_one sent number) before after machine number found inside
            finds
            (λ other differ. (steps (λ t. machine.work (oid_of t)) inside.work).beside other differ),
      )

  -- its table's Relation, if it has to be sent, and then its message
  with_relation : (sent : List Bool) (machine : Machine) (message : Msg)
      → Inside checked subscriber begin outer sent before machine
      → ((next : Machine) → Inside checked subscriber begin outer (mark_one sent number) before next
      → Safe (Follows checked transactions subscriber) position (message ∷ []) next
      (λ at last. (at ≡ position) × Inside checked subscriber begin outer (mark_one sent number) after last))
      → Safe (Follows checked transactions subscriber) position
      (relations_of checked.catalog.tables sent (number ∷ []) ++ message ∷ []) machine
      (λ at last. (at ≡ position) × Inside checked subscriber begin outer (mark_one sent number) after last)
  unfolding mark_all
  with_relation sent machine message inside on =
      safe_both (Follows checked transactions subscriber)
      (λ at last. (at ≡ position) × Inside checked subscriber begin outer (mark_one sent number) after last)
      (Inside checked subscriber begin outer (mark_one sent number) before) position
      (relations_of checked.catalog.tables sent (number ∷ [])) (message ∷ []) machine
      (relations_safe checked transactions subscriber begin position outer follows before (number ∷ []) sent machine
      one_table inside) on

  by_seen : (away coming : Option (List Datum)) → passing ((setting_in checked).passes subscriber number) old ≡ away
      → passing ((setting_in checked).passes subscriber number) new ≡ coming
      → (sent : List Bool) (machine : Machine) → Inside checked subscriber begin outer sent before machine
      → Safe (Follows checked transactions subscriber) position
      (said checked.catalog.tables sent
      (option_map (as_recorded (setting_in checked)) (seen_rows number away coming))) machine
      (λ at next. (at ≡ position)
      × Inside checked subscriber begin outer
      (mark_by sent (option_map (as_recorded (setting_in checked)) (seen_rows number away coming))) after next)
  unfolding said mark_by mark_all
  by_seen None None e f sent machine inside = (
    refl,
    stays_inside checked subscriber begin outer sent before after machine inside
        (λ other. by_test (number == other)
        (λ same. subst (λ n. FindsRows (own_key checked n) (machine.work (oid_of n))
        (in_shard (setting_in checked) subscriber after n)) ((unsigned_Decides number other).0 same)
        (done None None e f sent machine inside))
        (λ differ. (steps (λ t. machine.work (oid_of t)) inside.work).beside other differ)),
  )
  by_seen None (Some coming) e f sent machine inside =
      let is = passing_some ((setting_in checked).passes subscriber number) new coming f in
      with_relation sent machine (m.Insert (oid_of number) (cells_of coming)) inside
      (λ next reached.
      let finished = done None (Some coming) e f (mark_one sent number) next reached in
      ends_with sent next (m.Insert (oid_of number) (cells_of coming))
      (λ shape found. inserted shape found (cells_of coming))
      (put (next.work (oid_of number)) (own_key checked number coming) (Some coming)) inside.knows.flags reached
      (ap (λ phase. hear_in phase (m.Insert (oid_of number) (cells_of coming)) next) reached.busy)
      (insert_made checked number table there (next.work (oid_of number)) coming (new_fits coming is.0) finished.0)
      finished.1 refl)
  by_seen (Some away) None e f sent machine inside =
      let was = passing_some ((setting_in checked).passes subscriber number) old away e in
      let recorded = has_part checked covered number away in
      subst (λ part. Safe (Follows checked transactions subscriber) position
      (said checked.catalog.tables sent (Some (r.Delete number part))) machine
      (λ at next. (at ≡ position)
      × Inside checked subscriber begin outer (mark_by sent (Some (r.Delete number part))) after next))
      (sym recorded.is)
      (with_relation sent machine (m.Delete (oid_of number) (old_of recorded.part)) inside
      (λ next reached.
      let finished = done (Some away) None e f (mark_one sent number) next reached in
      ends_with sent next (m.Delete (oid_of number) (old_of recorded.part))
      (λ shape found. deleted shape found (old_of recorded.part))
      (put (next.work (oid_of number)) (own_key checked number away) None) inside.knows.flags reached
      (ap (λ phase. hear_in phase (m.Delete (oid_of number) (old_of recorded.part)) next) reached.busy)
      (delete_made checked number table there (next.work (oid_of number)) away (old_of recorded.part)
      (part_read checked number table there covered away (old_fits away was.0) None recorded.part recorded.is))
      finished.1 refl))
  by_seen (Some away) (Some coming) e f sent machine inside =
      let was = passing_some ((setting_in checked).passes subscriber number) old away e in
      let is = passing_some ((setting_in checked).passes subscriber number) new coming f in
      with_relation sent machine
      (m.Update (oid_of number) (maybe_old_of (part_of (setting_in checked) number away (Some coming)))
      (cells_of coming)) inside
      (λ next reached.
      let finished = done (Some away) (Some coming) e f (mark_one sent number) next reached in
      ends_with sent next (m.Update (oid_of number)
      (maybe_old_of (part_of (setting_in checked) number away (Some coming))) (cells_of coming))
      (λ shape found. updated shape found (maybe_old_of (part_of (setting_in checked) number away (Some coming)))
      (cells_of coming))
      (put (put (next.work (oid_of number)) (own_key checked number away) None) (own_key checked number coming)
      (Some coming)) inside.knows.flags reached
      (ap (λ phase. hear_in phase
      (m.Update (oid_of number) (maybe_old_of (part_of (setting_in checked) number away (Some coming)))
      (cells_of coming)) next) reached.busy)
      (update_made checked number table there (next.work (oid_of number)) away coming
      (maybe_old_of (part_of (setting_in checked) number away (Some coming))) (new_fits coming is.0)
      (gone_by (part_of (setting_in checked) number away (Some coming)) refl (old_fits away was.0)
      (new_fits coming is.0)) finished.0 finished.1)
      finished.2 refl)
    where
      gone_by : (part : Option PartOf) → part_of (setting_in checked) number away (Some coming) ≡ part
          → fits (setting_in checked) number away ≡ true
          → fits (setting_in checked) number coming ≡ true
          → gone_of (shape_for number table) (maybe_old_of part) coming ≡ Ok (own_key checked number away)
      gone_by None h fit also =
          ap Ok (key_here checked number table there coming ∙ same_key checked covered number away coming fit also h)
      gone_by (Some part) h fit also = part_read checked number table there covered away fit (Some coming) part h

  pub row_change_safe : (sent : List Bool) (machine : Machine)
      → Inside checked subscriber begin outer sent before machine
      → Safe (Follows checked transactions subscriber) position
      (said checked.catalog.tables sent (option_map (as_recorded (setting_in checked))
      (seen_rows number (passing ((setting_in checked).passes subscriber number) old)
      (passing ((setting_in checked).passes subscriber number) new)))) machine
      (λ at next. (at ≡ position)
      × Inside checked subscriber begin outer (mark_by sent (option_map (as_recorded (setting_in checked))
      (seen_rows number (passing ((setting_in checked).passes subscriber number) old)
      (passing ((setting_in checked).passes subscriber number) new)))) after next)
  row_change_safe sent machine inside =
      by_seen (passing ((setting_in checked).passes subscriber number) old)
      (passing ((setting_in checked).passes subscriber number) new) refl refl sent machine inside

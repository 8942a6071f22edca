-- The layouts have room for what is sent of the commits of a log.
use Rattle.std.proofs.Common.{◌≡◌, ℕ, zero, suc, ◌+◌, ◌<◌, ◌≤◌, ◌^◌, Bool, true, false, ◌||◌, List, [], ◌∷◌, ◌++◌, length, map, take, refl, sym, ◌∙◌, ap, subst, arith}
use Rattle.std.specs.Prelude.{Option, Some, None, All, nat_eq, filter, fold, IfSome, option_map, slice_get, slice_index_or, if◌then◌else◌}
use Rattle.std.specs.Cmp.{unsigned_Decides}
use Rattle.std.specs.List.{list_any}
use Rattle.std.proofs.lemmas.List.Elements.{All-nil, All-cons, All-head, All-tail, All-append}
use Rattle.std.proofs.lemmas.Map.Steps.{length-le_from_distinct_below}
use Rattle.std.proofs.lemmas.Option.{slice_get_within, get_or_from_slice_get}
use Rattle.filter_tree.specs.Datum.{Datum}
use Rattle.filter_tree.specs.Lists.{distinct}
use Rattle.filter_tree.specs.declared.table.Column.{Column}
use Rattle.filter_tree.specs.declared.table.Table.{Table}
use Rattle.filter_tree.proofs.ValidLemmas.{no_fault_from_valid}
use Rattle.pub_catalog.specs.CatalogLimits.{HasPlainName, IsNamed, IsLimited, IsLimitedTable}
use Rattle.table_changes.specs.Commands.{Command, Insert, Update, Delete, Truncate, named, fault_of, applied, all_applied, first_fault}
use Rattle.table_changes.specs.Outs.{got, as_recorded}
use Rattle.table_changes.specs.Records as r
use Rattle.table_changes.specs.Records.{PartOf, part_of, part_found, change_of, record_of}
use Rattle.table_changes.specs.Seen.{passing, seen_rows, seen_tables, seen_of}
use Rattle.table_changes.specs.Setting.{Setting, fits}
use Rattle.table_changes.specs.Standing.{Covered, AllFit}
use Rattle.table_changes.specs.Tables.{Tables, no_rows, holds, Stands}
use Rattle.table_changes.proofs.ChangeLemmas.{keeps_keyed, stay_fit, not_numbered, update_finds, delete_finds, begins_well}
use Rattle.table_changes.proofs.TableLemmas.{some_is}
use Rattle.replica_identity.proofs.PartLemmas.{records_parts}
use Rattle.replica_identity.proofs.SettingLemmas.{has_primary_keys}
use Rattle.shard_checker.specs.CheckedView.{CheckedOf, setting_in}
use Rattle.tables_log.specs.Commits.{CommitOf, commit_of}
use Rattle.tables_log.specs.Sendable.{IsSendableRow, IsSendablePart, IsTableNumber, IsSendableChange}
use Rattle.tables_log.specs.StandsFor.{Transaction, left_by, AreAccepted}
use Rattle.tables_log.proofs.SendableLemmas.{valid_sendable, part_sendable}
use Rattle.pgoutput_msgs.specs.Introducing.{IsChangeOf}
use Rattle.pgoutput_msgs.specs.Ranges.{HasTexts, HasTextName}
use Rattle.pgoutput_msgs.specs.Sent.{IsSent}
use Rattle.pgoutput_msgs.specs.Telling as t
use Rattle.pgoutput_msgs.specs.Telling.{sent_column, columns_from, relation_of, a_relation, introduced, relation_once, relations_of, mark_one, mark_by, message_of, named_in, said, said_each, enclosed, messages_for}
use Rattle.pgoutput_msgs.specs.ValueText.{cells_of}
use Rattle.pgoutput_msgs.specs.declared.message.Msg.{Msg}
use Rattle.pgoutput_msgs.specs.declared.message.Msg.TheVariants as m
use Rattle.pgoutput_msgs.proofs.RecordedLemmas.{records_of_tables}
use Rattle.pgoutput_msgs.proofs.SentLemmas.{messages_sent}
use Rattle.stream_laws.specs.LayoutRoom.{IsTimedTransaction, LogsFitLayouts}
use Rattle.stream_laws.proofs.CommandSteps.{insert_changes, update_changes, delete_changes, new_fits}
use Rattle.stream_laws.proofs.CommitSteps.{shows, no_first_fault}
use Rattle.stream_laws.proofs.EntryLemmas.{entry_at}
use Rattle.stream_laws.proofs.KeyLemmas.{row_of}
use Rattle.stream_laws.proofs.SwapLemmas.{passing_some}
use Rattle.stream_laws.proofs.TextLemmas.{IsTextPart, IsTextRow, fits_text, part_text, row_text}
use Rattle.tables_log.proofs.TruncateLemmas.{distinct_fold, none_distinct}
use Rattle.filter_tree.proofs.Tests.{by_test}

-- ---- numbers, each once

below_of_any : (most : ℕ) (numbers : List ℕ) → All (λ number. number < most) numbers → (number : ℕ)
    → list_any (nat_eq number) numbers ≡ true → number < most
below_of_any most [] all number h = absurd cc
below_of_any most (first ∷ numbers) all number h = by_test (nat_eq number first)
    (λ here. subst (λ n. n < most) (sym ((unsigned_Decides number first).0 here))
    (All-head (λ n. n < most) first numbers all))
    (λ beside. below_of_any most numbers (All-tail (λ n. n < most) first numbers all) number
    (sym (ap (λ b. b || list_any (nat_eq number) numbers) beside) ∙ h))

few_distinct : (most : ℕ) (numbers : List ℕ) → All (λ number. number < most) (distinct nat_eq numbers)
    → length (distinct nat_eq numbers) ≤ most
few_distinct most numbers all =
    length-le_from_distinct_below (distinct nat_eq numbers) most (distinct_fold [] numbers none_distinct)
    (below_of_any most (distinct nat_eq numbers) all)

-- tables whose rows are where they belong, and fit
pub record IsSaid (setting : Setting) (tables : Tables) : Type 0 where
  pub stands : Stands setting.keys tables
  pub fit : AllFit setting tables

module _ (checked : CheckedOf) (limited : IsLimited checked.catalog) where
  said_after : (tables : Tables) (command : Command) → fault_of (setting_in checked) tables command ≡ None
      → IsSaid (setting_in checked) tables
      → IsSaid (setting_in checked) (applied (setting_in checked) tables command)
  said_after tables command h so = record {
    stands = keeps_keyed (setting_in checked) tables command h so.stands;
    fit = stay_fit (setting_in checked) (has_primary_keys checked.catalog checked.plan) tables 1 (command ∷ [])
        (no_first_fault (setting_in checked) tables command h) so.stands so.fit;
  }

  -- ---- rows can be sent

  narrow : (number : ℕ) (table : Table) → slice_get checked.catalog.tables number ≡ Some table → IsLimitedTable table
  narrow number table there =
      subst IsLimitedTable (get_or_from_slice_get checked.catalog.tables number table table there)
      (limited.each_table number table (slice_get_within checked.catalog.tables number table there))

  low : (number : ℕ) (table : Table) → slice_get checked.catalog.tables number ≡ Some table → IsTableNumber number
  low number table there = let less = slice_get_within checked.catalog.tables number table there in
      omega (arith, less, limited.tables)

  row_sendable : (number : ℕ) (row : List Datum) → fits (setting_in checked) number row ≡ true → IsSendableRow row
  row_sendable number row fit =
      let its = row_of checked number row fit in
      valid_sendable its.table.columns row (no_fault_from_valid its.table.columns row its.valid)
      (narrow number its.table its.there).columns

  part_can : (number : ℕ) (old : List Datum) (new : Option (List Datum)) → fits (setting_in checked) number old ≡ true
      → IsSendablePart (part_of (setting_in checked) number old new)
  part_can number old new fit =
      let its = row_of checked number old fit in
      subst IsSendablePart (sym (records_parts checked.catalog checked.plan number its.table its.there old new))
      (part_sendable its.table old new (row_sendable number old fit))

  number_low : (number : ℕ) (row : List Datum) → fits (setting_in checked) number row ≡ true → IsTableNumber number
  number_low number row fit = let its = row_of checked number row fit in low number its.table its.there

  -- ---- what is recorded can be sent

  insert_fits : (tables : Tables) (number : ℕ) (row : List Datum)
      → fault_of (setting_in checked) tables (Insert number row) ≡ None → IsSaid (setting_in checked) tables
      → fits (setting_in checked) number row ≡ true
  insert_fits tables number row h so =
      let setting = setting_in checked in
      let has = has_primary_keys checked.catalog checked.plan in
      new_fits setting tables (applied setting tables (Insert number row)) number None (Some row)
      (insert_changes setting has tables so.stands number row h)
      (stay_fit setting has tables 1 (Insert number row ∷ []) (no_first_fault setting tables (Insert number row) h)
      so.stands so.fit) row refl

  update_fits : (tables : Tables) (number : ℕ) (key row : List Datum)
      → fault_of (setting_in checked) tables (Update number key row) ≡ None → IsSaid (setting_in checked) tables
      → fits (setting_in checked) number row ≡ true
  update_fits tables number key row h so =
      let setting = setting_in checked in
      let has = has_primary_keys checked.catalog checked.plan in
      new_fits setting tables (applied setting tables (Update number key row)) number (named tables number key)
      (Some row) (update_changes setting has tables so.stands number key row h)
      (stay_fit setting has tables 1 (Update number key row ∷ [])
      (no_first_fault setting tables (Update number key row) h) so.stands so.fit) row refl

  update_old : (tables : Tables) (number : ℕ) (key row old : List Datum)
      → fault_of (setting_in checked) tables (Update number key row) ≡ None → IsSaid (setting_in checked) tables
      → named tables number key ≡ Some old → holds (setting_in checked).keys tables number old ≡ true
  update_old tables number key row old h so there =
      (update_changes (setting_in checked) (has_primary_keys checked.catalog checked.plan) tables so.stands number key
      row h).there old there

  delete_old : (tables : Tables) (number : ℕ) (key old : List Datum)
      → fault_of (setting_in checked) tables (Delete number key) ≡ None → IsSaid (setting_in checked) tables
      → named tables number key ≡ Some old → holds (setting_in checked).keys tables number old ≡ true
  delete_old tables number key old h so there =
      (delete_changes (setting_in checked) (has_primary_keys checked.catalog checked.plan) tables so.stands number key
      h).there old there

  change_sendable : (tables : Tables) (command : Command) → fault_of (setting_in checked) tables command ≡ None
      → IsSaid (setting_in checked) tables
      → IsSendableChange (change_of (setting_in checked) tables command)
  change_sendable tables (Insert number row) h so =
      let fit = insert_fits tables number row h so in (number_low number row fit, row_sendable number row fit)
  change_sendable tables (Update number key row) h so =
      let setting = setting_in checked in
      let fit = update_fits tables number key row h so in
      let found = update_finds setting tables number key row h in (
        number_low number row fit,
        subst (λ old. IsSendablePart (part_found setting number old (Some row))) (sym found.there)
            (part_can number found.row (Some row)
            (so.fit number found.row (update_old tables number key row found.row h so found.there))),
        row_sendable number row fit,
      )
  change_sendable tables (Delete number key) h so =
      let setting = setting_in checked in
      let found = delete_finds setting tables number key h in
      let fit = so.fit number found.row (delete_old tables number key found.row h so found.there) in (
        number_low number found.row fit,
        subst (λ old. IsSendablePart (part_found setting number old None)) (sym found.there)
            (part_can number found.row None fit),
      )
  change_sendable tables (Truncate numbers) h so =
      let below = All-head (IsChangeOf checked.catalog.tables)
      (change_of (setting_in checked) tables (Truncate numbers)) []
      (records_of_tables checked tables 1 (Truncate numbers ∷ [])
      (no_first_fault (setting_in checked) tables (Truncate numbers) h)) in
      let few : length (distinct nat_eq numbers) ≤ length checked.catalog.tables =
      few_distinct (length checked.catalog.tables) numbers below in
      (omega (arith, few, limited.tables), all_low (distinct nat_eq numbers) below)
    where
      all_low : (list : List ℕ) → All (λ number. number < length checked.catalog.tables) list → All IsTableNumber list
      all_low [] all = All-nil IsTableNumber
      all_low (number ∷ list) all =
          let less : number < length checked.catalog.tables =
          All-head (λ n. n < length checked.catalog.tables) number list all in
          All-cons IsTableNumber number list (omega (arith, less, limited.tables))
          (all_low list (All-tail (λ n. n < length checked.catalog.tables) number list all))

  changes_sendable : (commands : List Command) (tables : Tables) (number : ℕ)
      → first_fault (setting_in checked) tables number commands ≡ None → IsSaid (setting_in checked) tables
      → All IsSendableChange (record_of (setting_in checked) tables commands)
  changes_sendable [] tables number h so = All-nil IsSendableChange
  changes_sendable (command ∷ commands) tables number h so =
      let setting = setting_in checked in
      let none = not_numbered number (fault_of setting tables command)
      (first_fault setting (applied setting tables command) (number + 1) commands) h in
      All-cons IsSendableChange (change_of setting tables command)
      (record_of setting (applied setting tables command) commands)
      (change_sendable tables command none.0 so)
      (changes_sendable commands (applied setting tables command) (number + 1) none.1
      (said_after tables command none.0 so))

  -- ---- what is sent are texts

  relation_text : (number : ℕ) (table : Table) → IsNamed table → HasTexts (m.Relation (relation_of number table))
  relation_text number table names =
      record {
        namespace = names.schema.utf8;
        name = names.name.utf8;
        columns =
            columns_text 0 table.columns names.columns;
      }
    where
      columns_text : (from : ℕ) (columns : List Column) → All HasPlainName columns
          → All HasTextName (columns_from table from columns)
      columns_text from [] all = All-nil HasTextName
      columns_text from (column ∷ columns) all =
          All-cons HasTextName (sent_column table from column) (columns_from table (from + 1) columns)
          (All-head HasPlainName column columns all).utf8
          (columns_text (from + 1) columns (All-tail HasPlainName column columns all))

  found_text : (number : ℕ) (found : Option Table) → slice_get checked.catalog.tables number ≡ found
      → All HasTexts (a_relation number found)
  found_text number None e = All-nil HasTexts
  found_text number (Some table) e =
      All-cons HasTexts (m.Relation (relation_of number table)) []
      (relation_text number table (narrow number table e).named)
      (All-nil HasTexts)

  once_text : (sent : Bool) (number : ℕ) → All HasTexts (introduced checked.catalog.tables sent number)
  once_text true number = All-nil HasTexts
  once_text false number = found_text number (slice_get checked.catalog.tables number) refl

  relations_text : (sent : List Bool) (numbers : List ℕ)
      → All HasTexts (relations_of checked.catalog.tables sent numbers)
  unfolding relations_of relation_once
  relations_text sent [] = All-nil HasTexts
  relations_text sent (number ∷ numbers) =
      All-append HasTexts (introduced checked.catalog.tables (slice_index_or sent number false) number)
      (relations_of checked.catalog.tables (mark_one sent number) numbers)
      (once_text (slice_index_or sent number false) number) (relations_text (mark_one sent number) numbers)

  -- what is sent of a change, if its own message is a text
  change_text : (sent : List Bool) (change : Option r.ChangeOf) → IfSome change (λ one. All HasTexts (message_of one))
      → All HasTexts (said checked.catalog.tables sent change)
  unfolding said
  change_text sent None h = All-nil HasTexts
  change_text sent (Some change) h =
      All-append HasTexts (relations_of checked.catalog.tables sent (named_in change)) (message_of change)
      (relations_text sent (named_in change)) h

  part_message : (number : ℕ) (part : Option PartOf) → IsSendablePart part → IsTextPart part
      → All HasTexts (message_of (r.Delete number part))
  part_message number None h text = All-nil HasTexts
  part_message number (Some (r.Key row)) h text =
      All-cons HasTexts (m.Delete (t.oid_of number) (t.old_of (r.Key row))) [] (row_text row h text)
      (All-nil HasTexts)
  part_message number (Some (r.Full row)) h text =
      All-cons HasTexts (m.Delete (t.oid_of number) (t.old_of (r.Full row))) [] (row_text row h text)
      (All-nil HasTexts)

  update_message : (number : ℕ) (part : Option PartOf) (new : List Datum) → IsSendablePart part → IsTextPart part
      → IsSendableRow new → IsTextRow new → All HasTexts (message_of (r.Update number part new))
  update_message number None new h text k also =
      All-cons HasTexts (m.Update (t.oid_of number) None (cells_of new)) [] (tt, row_text new k also)
      (All-nil HasTexts)
  update_message number (Some (r.Key row)) new h text k also =
      All-cons HasTexts (m.Update (t.oid_of number) (Some (t.old_of (r.Key row))) (cells_of new)) []
      (row_text row h text, row_text new k also) (All-nil HasTexts)
  update_message number (Some (r.Full row)) new h text k also =
      All-cons HasTexts (m.Update (t.oid_of number) (Some (t.old_of (r.Full row))) (cells_of new)) []
      (row_text row h text, row_text new k also) (All-nil HasTexts)

  -- for rows that are seen
  rows_message : (number : ℕ) (old new : Option (List Datum))
      → IfSome old (λ row. fits (setting_in checked) number row ≡ true)
      → IfSome new (λ row. fits (setting_in checked) number row ≡ true)
      → IfSome (option_map (as_recorded (setting_in checked)) (seen_rows number old new))
      (λ one. All HasTexts (message_of one))
  rows_message number None None h k = tt
  rows_message number None (Some new) h k =
      All-cons HasTexts (m.Insert (t.oid_of number) (cells_of new)) []
      (row_text new (row_sendable number new k) (fits_text checked number new k)) (All-nil HasTexts)
  rows_message number (Some old) None h k =
      part_message number (part_of (setting_in checked) number old None) (part_can number old None h)
      (part_text checked number old None (fits_text checked number old h))
  rows_message number (Some old) (Some new) h k =
      update_message number (part_of (setting_in checked) number old (Some new)) new (part_can number old (Some new) h)
      (part_text checked number old (Some new) (fits_text checked number old h)) (row_sendable number new k)
      (fits_text checked number new k)

  tables_message : (numbers : List ℕ)
      → IfSome (option_map (as_recorded (setting_in checked)) (seen_tables numbers))
      (λ one. All HasTexts (message_of one))
  tables_message [] = tt
  tables_message (number ∷ numbers) =
      All-cons HasTexts (m.Truncate 0 (map t.oid_of (number ∷ numbers))) [] tt (All-nil HasTexts)

  struck : (number subscriber : ℕ) (found : Option (List Datum))
      → ((row : List Datum) → found ≡ Some row → fits (setting_in checked) number row ≡ true)
      → IfSome (passing ((setting_in checked).passes subscriber number) found)
      (λ row. fits (setting_in checked) number row ≡ true)
  struck number subscriber found h = by_passing (passing ((setting_in checked).passes subscriber number) found) refl
    where
      by_passing : (passed : Option (List Datum))
          → passing ((setting_in checked).passes subscriber number) found ≡ passed
          → IfSome passed (λ row. fits (setting_in checked) number row ≡ true)
      by_passing None e = tt
      by_passing (Some row) e = h row (passing_some ((setting_in checked).passes subscriber number) found row e).0

  module _ (covered : Covered (setting_in checked)) (subscriber : ℕ) where
    seen_message : (tables : Tables) (command : Command) → fault_of (setting_in checked) tables command ≡ None
        → IsSaid (setting_in checked) tables
        → IfSome (option_map (as_recorded (setting_in checked))
        (seen_of (setting_in checked) subscriber tables command)) (λ one. All HasTexts (message_of one))
    seen_message tables (Insert number row) h so =
        rows_message number None (passing ((setting_in checked).passes subscriber number) (Some row)) tt
        (struck number subscriber (Some row)
        (λ other e. subst (λ r. fits (setting_in checked) number r ≡ true) (some_is row other e)
        (insert_fits tables number row h so)))
    seen_message tables (Update number key row) h so =
        rows_message number (passing ((setting_in checked).passes subscriber number) (named tables number key))
        (passing ((setting_in checked).passes subscriber number) (Some row))
        (struck number subscriber (named tables number key)
        (λ old e. so.fit number old (update_old tables number key row old h so e)))
        (struck number subscriber (Some row)
        (λ other e. subst (λ r. fits (setting_in checked) number r ≡ true) (some_is row other e)
        (update_fits tables number key row h so)))
    seen_message tables (Delete number key) h so =
        rows_message number (passing ((setting_in checked).passes subscriber number) (named tables number key)) None
        (struck number subscriber (named tables number key)
        (λ old e. so.fit number old (delete_old tables number key old h so e))) tt
    seen_message tables (Truncate numbers) h so =
        tables_message (filter ((setting_in checked).carries subscriber) (distinct nat_eq numbers))

    all_messages : (commands : List Command) (tables : Tables) (number : ℕ)
        → first_fault (setting_in checked) tables number commands ≡ None → IsSaid (setting_in checked) tables
        → (sent : List Bool) → All HasTexts
        (said_each checked subscriber sent (record_of (setting_in checked) tables commands))
    unfolding said_each
    all_messages [] tables number h so sent = All-nil HasTexts
    all_messages (command ∷ commands) tables number h so sent =
        let setting = setting_in checked in
        let none = not_numbered number (fault_of setting tables command)
        (first_fault setting (applied setting tables command) (number + 1) commands) h in
        let mine = got setting subscriber (change_of setting tables command) in
        All-append HasTexts (said checked.catalog.tables sent mine)
        (said_each checked subscriber (mark_by sent mine)
        (record_of setting (applied setting tables command) commands))
        (change_text sent mine
        (subst (λ one. IfSome one (λ change. All HasTexts (message_of change)))
        (sym (shows checked covered subscriber tables command none.0))
        (seen_message tables command none.0 so)))
        (all_messages commands (applied setting tables command) (number + 1) none.1
        (said_after tables command none.0 so)
        (mark_by sent mine))

    enclosed_text : (commit : CommitOf) (messages : List Msg) → All HasTexts messages
        → All HasTexts (enclosed commit messages)
    enclosed_text commit [] all = All-nil HasTexts
    enclosed_text commit (first ∷ others) all =
        All-cons HasTexts (t.begin_msg commit) ((first ∷ others) ++ t.commit_msg commit ∷ []) tt
        (All-append HasTexts (first ∷ others) (t.commit_msg commit ∷ []) all
        (All-cons HasTexts (t.commit_msg commit) [] tt (All-nil HasTexts)))

    commit_sent : (number time : ℕ) (commands : List Command) (tables : Tables) → 1 ≤ number → number ≤ 1000000000
        → time < 2 ^ 64 → first_fault (setting_in checked) tables 1 commands ≡ None
        → IsSaid (setting_in checked) tables → (sent : List Bool)
        → All IsSent (messages_for checked subscriber sent
        (commit_of number time (record_of (setting_in checked) tables commands)))
    commit_sent number time commands tables first last timed h so sent =
        messages_sent checked subscriber sent (commit_of number time (record_of (setting_in checked) tables commands)) _
        (record {
          numbered = first;
          numbered_within = last;
          timed = timed;
          changed =
              changes_sendable commands tables 1 h so;
        }) limited refl
        (enclosed_text (commit_of number time (record_of (setting_in checked) tables commands))
        (said_each checked subscriber sent (record_of (setting_in checked) tables commands))
        (all_messages commands tables 1 h so sent))

  -- ---- the tables before each commit

  all_after : (commands : List Command) (tables : Tables) (number : ℕ)
      → first_fault (setting_in checked) tables number commands ≡ None → IsSaid (setting_in checked) tables
      → IsSaid (setting_in checked) (all_applied (setting_in checked) tables commands)
  all_after [] tables number h so = so
  all_after (command ∷ commands) tables number h so =
      let setting = setting_in checked in
      let none = not_numbered number (fault_of setting tables command)
      (first_fault setting (applied setting tables command) (number + 1) commands) h in
      all_after commands (applied setting tables command) (number + 1) none.1 (said_after tables command none.0 so)

  said_at : (transactions : List Transaction) (tables : Tables) (place : ℕ)
      → AreAccepted (setting_in checked) tables transactions → IsSaid (setting_in checked) tables
      → IsSaid (setting_in checked) (fold (left_by (setting_in checked)) tables (take place transactions))
  said_at [] tables zero accepted so = so
  said_at [] tables (suc place) accepted so = so
  said_at (transaction ∷ transactions) tables zero accepted so = so
  said_at (transaction ∷ transactions) tables (suc place) accepted so =
      said_at transactions (left_by (setting_in checked) tables transaction) place accepted.1
      (all_after transaction.commands tables 1 accepted.0.no_fault so)

pub logs_fit_layouts : LogsFitLayouts
logs_fit_layouts checked covered limited transactions accepted timed few = record {
  few = few;
  said = λ subscriber sent place commit at.
      let entry = entry_at (setting_in checked) no_rows 1 transactions place commit accepted at in
      let begins = begins_well (setting_in checked) in
      let first : IsSaid (setting_in checked) no_rows = record { stands = begins.keyed; fit = begins.fit } in
      let own = time_of transactions entry.transaction place entry.there timed in
      subst (λ one. All IsSent (messages_for checked subscriber sent one)) (sym entry.is)
      (commit_sent checked limited covered subscriber (1 + place) entry.transaction.time entry.transaction.commands
      (fold (left_by (setting_in checked)) no_rows (take place transactions)) (omega arith)
      (omega (arith, entry.within, few)) own entry.accepted.no_fault
      (said_at checked limited transactions no_rows place accepted first) sent);
}
  where
    time_of : (all : List Transaction) (transaction : Transaction) (place : ℕ)
        → slice_get all place ≡ Some transaction → All IsTimedTransaction all → IsTimedTransaction transaction
    time_of all transaction place there h =
        subst IsTimedTransaction (get_or_from_slice_get all place transaction transaction there)
        (h place transaction (slice_get_within all place transaction there))

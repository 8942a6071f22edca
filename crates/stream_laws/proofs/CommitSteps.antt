-- A subscriber hears what it is sent of the commands of a commit.
use Rattle.std.proofs.Common.{◌≡◌, ℕ, ◌+◌, ◌<◌, Bool, List, [], ◌∷◌, length, refl, sym, ap, subst}
use Rattle.std.specs.Prelude.{Option, Some, None, All, nat_eq, filter, option_map}
use Rattle.std.proofs.lemmas.List.Elements.{All-head, All-filter}
use Rattle.filter_tree.specs.Lists.{distinct}
use Rattle.table_changes.specs.Commands.{Command, Insert, Update, Delete, Truncate, named, fault_of, applied, all_applied, numbered, first_fault}
use Rattle.table_changes.specs.Outs.{got, as_recorded}
use Rattle.table_changes.specs.Records as r
use Rattle.table_changes.specs.Records.{change_of, record_of}
use Rattle.table_changes.specs.Seen.{seen_of}
use Rattle.table_changes.specs.Setting.{Setting}
use Rattle.table_changes.specs.Standing.{Covered, KeepsApart}
use Rattle.table_changes.specs.Tables.{Tables}
use Rattle.table_changes.proofs.ChangeLemmas.{keeps_keyed, stay_fit, not_numbered, delete_finds}
use Rattle.table_changes.proofs.ShowingLemmas.{record_shows}
use Rattle.replica_identity.proofs.SettingLemmas.{has_primary_keys}
use Rattle.shard_checker.specs.CheckedView.{CheckedOf, setting_in}
use Rattle.tables_log.specs.StandsFor.{Transaction}
use Rattle.pgoutput_msgs.specs.Introducing.{IsChangeOf}
use Rattle.pgoutput_msgs.specs.Telling.{said, mark_by, said_each, mark_each}
use Rattle.pgoutput_msgs.proofs.RecordedLemmas.{records_of_tables}
use Rattle.test_subscriber.specs.Machine.{Machine}
use Rattle.stream_laws.specs.Following.{own_key, Follows}
use Rattle.stream_laws.proofs.ChangeSteps.{row_change_safe}
use Rattle.stream_laws.proofs.CommandSteps.{IsRight, step_of, insert_changes, update_changes, delete_changes, old_fits, new_fits, truncate_clears}
use Rattle.stream_laws.proofs.Inside.{Inside}
use Rattle.stream_laws.proofs.KeyLemmas.{row_of, tells_identity}
use Rattle.stream_laws.proofs.Safety.{Safe, safe_both}
use Rattle.stream_laws.proofs.TruncateSteps.{truncate_safe}

-- ---- tables as accepted commands leave them

pub no_first_fault : (setting : Setting) (tables : Tables) (command : Command)
    → fault_of setting tables command ≡ None → first_fault setting tables 1 (command ∷ []) ≡ None
no_first_fault setting tables command h = ap (λ fault. numbered 1 fault None) h

pub right_after : (checked : CheckedOf) → KeepsApart (setting_in checked) → (tables : Tables) (command : Command)
    → fault_of (setting_in checked) tables command ≡ None
    → IsRight (setting_in checked) tables → IsRight (setting_in checked) (applied (setting_in checked) tables command)
right_after checked keeps tables command h right = record {
  stands = keeps_keyed (setting_in checked) tables command h right.stands;
  fit = stay_fit (setting_in checked) (has_primary_keys checked.catalog checked.plan) tables 1 (command ∷ [])
      (no_first_fault (setting_in checked) tables command h) right.stands right.fit;
  apart = keeps.kept tables command h right.stands right.apart;
}

-- ---- what is sent of a command is what is seen of it

only_same : (one other : Option r.ChangeOf) → one ∷ [] ≡ other ∷ [] → one ≡ other
only_same one other h = cc

pub shows : (checked : CheckedOf) → Covered (setting_in checked)
    → (subscriber : ℕ) (tables : Tables) (command : Command) → fault_of (setting_in checked) tables command ≡ None
    → got (setting_in checked) subscriber (change_of (setting_in checked) tables command)
    ≡ option_map (as_recorded (setting_in checked)) (seen_of (setting_in checked) subscriber tables command)
shows checked covered subscriber tables command h =
    only_same (got (setting_in checked) subscriber (change_of (setting_in checked) tables command)) _
    (record_shows (setting_in checked) covered subscriber tables 1 (command ∷ [])
    (no_first_fault (setting_in checked) tables command h))

module _ (checked : CheckedOf) (transactions : List Transaction) (subscriber begin position : ℕ) (outer : Machine)
    (follows : Follows checked transactions subscriber position outer) (covered : Covered (setting_in checked))
    (keeps : KeepsApart (setting_in checked)) where
  -- what is sent of a change leaves the machine safe, and inside the transaction, after the change
  abbrev Tells : Option r.ChangeOf → Tables → List Bool → Machine → Type 0
  Tells mine after sent machine =
      Safe (Follows checked transactions subscriber) position (said checked.catalog.tables sent mine) machine
      (λ at next. (at ≡ position) × Inside checked subscriber begin outer (mark_by sent mine) after next)

  by_seen : (tables : Tables) (command : Command) → IsRight (setting_in checked) tables
      → fault_of (setting_in checked) tables command ≡ None
      → (sent : List Bool) (machine : Machine) → Inside checked subscriber begin outer sent tables machine
      → Tells (option_map (as_recorded (setting_in checked)) (seen_of (setting_in checked) subscriber tables command))
      (applied (setting_in checked) tables command) sent machine
  by_seen tables (Insert number row) right h sent machine inside =
      let setting = setting_in checked in
      let has = has_primary_keys checked.catalog checked.plan in
      let after = applied setting tables (Insert number row) in
      let next = right_after checked keeps tables (Insert number row) h right in
      let changes = insert_changes setting has tables right.stands number row h in
      let its = row_of checked number row
      (new_fits setting tables after number None (Some row) changes next.fit row refl) in
      row_change_safe checked transactions subscriber begin position outer follows covered tables after number
      its.table its.there None (Some row)
      (λ copies finds. step_of setting (own_key checked) (tells_identity checked covered) subscriber copies tables
      after finds next.fit next.apart number None (Some row) changes)
      (old_fits setting tables after number None (Some row) changes right.fit)
      (new_fits setting tables after number None (Some row) changes next.fit)
      sent machine inside
  by_seen tables (Update number key row) right h sent machine inside =
      let setting = setting_in checked in
      let has = has_primary_keys checked.catalog checked.plan in
      let after = applied setting tables (Update number key row) in
      let next = right_after checked keeps tables (Update number key row) h right in
      let changes = update_changes setting has tables right.stands number key row h in
      let its = row_of checked number row
      (new_fits setting tables after number (named tables number key) (Some row) changes next.fit row refl) in
      row_change_safe checked transactions subscriber begin position outer follows covered tables after number
      its.table its.there (named tables number key) (Some row)
      (λ copies finds. step_of setting (own_key checked) (tells_identity checked covered) subscriber copies tables
      after finds next.fit next.apart number (named tables number key) (Some row) changes)
      (old_fits setting tables after number (named tables number key) (Some row) changes right.fit)
      (new_fits setting tables after number (named tables number key) (Some row) changes next.fit)
      sent machine inside
  by_seen tables (Delete number key) right h sent machine inside =
      let setting = setting_in checked in
      let has = has_primary_keys checked.catalog checked.plan in
      let after = applied setting tables (Delete number key) in
      let next = right_after checked keeps tables (Delete number key) h right in
      let changes = delete_changes setting has tables right.stands number key h in
      let found = delete_finds setting tables number key h in
      let its = row_of checked number found.row
      (old_fits setting tables after number (named tables number key) None changes right.fit found.row
      found.there) in
      row_change_safe checked transactions subscriber begin position outer follows covered tables after number
      its.table its.there (named tables number key) None
      (λ copies finds. step_of setting (own_key checked) (tells_identity checked covered) subscriber copies tables
      after finds next.fit next.apart number (named tables number key) None changes)
      (old_fits setting tables after number (named tables number key) None changes right.fit)
      (new_fits setting tables after number (named tables number key) None changes next.fit)
      sent machine inside
  by_seen tables (Truncate numbers) right h sent machine inside =
      let setting = setting_in checked in
      truncate_safe checked transactions subscriber begin position outer follows tables
      (applied setting tables (Truncate numbers))
      (filter (setting.carries subscriber) (distinct nat_eq numbers)) (carried_known numbers h)
      (λ copies finds. truncate_clears setting (has_primary_keys checked.catalog checked.plan) covered
      (own_key checked) subscriber copies tables right.stands finds numbers h)
      sent machine inside
    where
      carried_known : (all : List ℕ) → fault_of (setting_in checked) tables (Truncate all) ≡ None
          → All (λ number. number < length checked.catalog.tables)
          (filter ((setting_in checked).carries subscriber) (distinct nat_eq all))
      carried_known all k =
          All-filter ((setting_in checked).carries subscriber) (λ number. number < length checked.catalog.tables)
          (distinct nat_eq all)
          (All-head (IsChangeOf checked.catalog.tables) (change_of (setting_in checked) tables (Truncate all)) []
          (records_of_tables checked tables 1 (Truncate all ∷ [])
          (no_first_fault (setting_in checked) tables (Truncate all) k)))

  command_safe : (tables : Tables) (command : Command) → IsRight (setting_in checked) tables
      → fault_of (setting_in checked) tables command ≡ None
      → (sent : List Bool) (machine : Machine) → Inside checked subscriber begin outer sent tables machine
      → Tells (got (setting_in checked) subscriber (change_of (setting_in checked) tables command))
      (applied (setting_in checked) tables command) sent machine
  command_safe tables command right h sent machine inside =
      subst (λ mine. Tells mine (applied (setting_in checked) tables command) sent machine)
      (sym (shows checked covered subscriber tables command h))
      (by_seen tables command right h sent machine inside)

  pub commands_safe : (commands : List Command) (tables : Tables) (number : ℕ) → IsRight (setting_in checked) tables
      → first_fault (setting_in checked) tables number commands ≡ None
      → (sent : List Bool) (machine : Machine) → Inside checked subscriber begin outer sent tables machine
      → Safe (Follows checked transactions subscriber) position
      (said_each checked subscriber sent (record_of (setting_in checked) tables commands)) machine
      (λ at next. (at ≡ position)
      × Inside checked subscriber begin outer
      (mark_each checked subscriber sent (record_of (setting_in checked) tables commands))
      (all_applied (setting_in checked) tables commands) next)
  unfolding said_each mark_each
  commands_safe [] tables number right h sent machine inside = (refl, inside)
  commands_safe (command ∷ commands) tables number right h sent machine inside =
      let setting = setting_in checked in
      let none = not_numbered number (fault_of setting tables command)
      (first_fault setting (applied setting tables command) (number + 1) commands) h in
      let mine = got setting subscriber (change_of setting tables command) in
      let later = record_of setting (applied setting tables command) commands in
      safe_both (Follows checked transactions subscriber)
      (λ at next. (at ≡ position)
      × Inside checked subscriber begin outer (mark_each checked subscriber (mark_by sent mine) later)
      (all_applied setting (applied setting tables command) commands) next)
      (Inside checked subscriber begin outer (mark_by sent mine) (applied setting tables command))
      position (said checked.catalog.tables sent mine) (said_each checked subscriber (mark_by sent mine) later) machine
      (command_safe tables command right none.0 sent machine inside)
      (λ next reached. commands_safe commands (applied setting tables command) (number + 1)
      (right_after checked keeps tables command none.0 right) none.1 (mark_by sent mine) next reached)

-- Changes that are only for other subscribers are passed over: nothing is sent for them.
use Rattle.std.proofs.Common.{◌≡◌, ℕ, zero, suc, ◌+◌, ◌-◌, ◌<◌, ◌≤◌, Bool, false, Some, None, List, [], length, get_or, drop, map, refl, sym, ap, subst, ◌∙◌, inl, inr, arith}
use Rattle.std.specs.Prelude.{option_map, slice_get}
use Rattle.std.proofs.lemmas.List.{at_drop_all}
use Rattle.std.proofs.lemmas.Option.{slice_get-map, slice_get_cases, slice_get_read}
use Rattle.replica_identity.specs.ChangeView.{change_view}
use Rattle.replica_identity.specs.Plans.{PlanOf}
use Rattle.replica_identity.specs.declared.change.Change.{Change}
use Rattle.row_owners.specs.Owners.{AreOwners, IsSpared, is_for}
use Rattle.row_owners.specs.declared.owner_set.OwnerSet.{OwnerSet}
use Rattle.shard_checker.specs.CheckedView.{CheckedOf, setting_in}
use Rattle.table_changes.specs.Outs.{got}
use Rattle.table_changes.specs.Records.{ChangeOf}
use Rattle.pgoutput_msgs.specs.Telling.{mark_by}
use Rattle.pgoutput_msgs.specs.declared.message.Msg.{Msg}
use Rattle.pgoutput_msgs.proofs.SilentLemmas.{gets_none}
use Rattle.pgoutput_msgs.proofs.SinkLemmas.{Said, more_said, nothing_taken, said_of}
use Rattle.pgoutput_msgs.proofs.TellingLemmas.{nothing_marked}

-- no sets are the sets of the first few changes
pub no_owners : (plan : PlanOf) (changes : List ChangeOf) → AreOwners plan changes []
no_owners plan changes = record { each = λ place change set there none. absurd cc }

-- the change at this place
pub change_at : (all : List Change) (i : ℕ) (c : Change) → c ≡ get_or all i c → i < length all
    → slice_get (map change_view all) i ≡ Some (change_view c)
change_at all i c is within =
    slice_get-map change_view all i
    ∙ ap (option_map change_view) (slice_get_read all (length all) i c refl within is)

module _ {S : Type 0} (takes_one : S → S → Msg → Type 0) where
  pub passed_over : (old now : S) (checked : CheckedOf) (subscriber : ℕ) (sent sent_now : List Bool)
      (all : List Change) (i : ℕ) (c : Change) → c ≡ get_or all i c → i < length all
      → is_for checked.plan subscriber (change_view c) ≡ false
      → Said takes_one checked subscriber sent sent_now old now all (drop i all)
      → Said takes_one checked subscriber sent sent_now old now all (drop (i + 1) all)
  passed_over old now checked subscriber sent sent_now all i c is within others before =
      let none : got (setting_in checked) subscriber (change_view c) ≡ None =
      gets_none checked subscriber (change_view c) others in
      more_said takes_one old now now checked subscriber sent sent_now sent_now all i c is within
      (said_of takes_one now now checked.catalog.tables checked.catalog.tables sent_now None
      (got (setting_in checked) subscriber (change_view c)) refl none
      (nothing_taken takes_one now checked.catalog.tables sent_now))
      (nothing_marked sent_now ∙ ap (mark_by sent_now) (sym none)) before

  -- one change that is for others by its set, or a place after the last change
  one_passed : (old now : S) (checked : CheckedOf) (subscriber : ℕ) (sent sent_now : List Bool) (all : List Change)
      (owners : List OwnerSet) (i : ℕ) → AreOwners checked.plan (map change_view all) owners
      → IsSpared owners subscriber i
      → Said takes_one checked subscriber sent sent_now old now all (drop i all)
      → Said takes_one checked subscriber sent sent_now old now all (drop (i + 1) all)
  one_passed old now checked subscriber sent sent_now all owners i are spared before =
      elim (slice_get_cases all i).1 [
        | inl found ↦
            passed_over old now checked subscriber sent sent_now all i found.0 (sym found.3) found.1
            (spared checked.plan (map change_view all) (change_view found.0) are
            (change_at all i found.0 (sym found.3) found.1))
            before
        | inr past ↦
            subst (Said takes_one checked subscriber sent sent_now old now all)
            (at_drop_all (λ (left : List Change). left) all i past.0
            ∙ sym (at_drop_all (λ (left : List Change). left) all (i + 1) (omega (arith, past.0))))
            before
      ]

  -- those from one place up to another
  pub all_passed : (old now : S) (checked : CheckedOf) (subscriber : ℕ) (sent sent_now : List Bool)
      (all : List Change) (owners : List OwnerSet) (from to : ℕ)
      → AreOwners checked.plan (map change_view all) owners → from ≤ to
      → ((place : ℕ) → from ≤ place → place < to → IsSpared owners subscriber place)
      → Said takes_one checked subscriber sent sent_now old now all (drop from all)
      → Said takes_one checked subscriber sent sent_now old now all (drop to all)
  all_passed old now checked subscriber sent sent_now all owners from to are onward spared before =
      by (to - from) to (omega (arith, onward)) spared
    where
      by : (more to : ℕ) → to ≡ from + more
          → ((place : ℕ) → from ≤ place → place < to → IsSpared owners subscriber place)
          → Said takes_one checked subscriber sent sent_now old now all (drop to all)
      by zero to is spared =
          subst (λ (n : ℕ). Said takes_one checked subscriber sent sent_now old now all (drop n all))
          (omega (arith, is)) before
      by (suc more) to is spared =
          subst (λ (n : ℕ). Said takes_one checked subscriber sent sent_now old now all (drop n all))
          (omega (arith, is))
          (one_passed old now checked subscriber sent sent_now all owners (from + more) are
          (spared (from + more) (omega arith) (omega (arith, is)))
          (by more (from + more) refl (λ place after below. spared place after (omega (arith, below, is)))))

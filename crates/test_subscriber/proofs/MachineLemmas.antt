-- What happens to a subscriber's machine when copies of tables change.
use Rattle.std.proofs.Common.{◌≡◌, ℕ, Bool, true, false, List, get_or, refl, sym, ◌∙◌, ap, subst}
use Rattle.std.specs.Prelude.{Option, Some, None, Result, Ok, Err, ◌==◌, slice_set}
use Rattle.filter_tree.specs.Memory.{TellsFault}
use Rattle.tables_log.specs.Staging.{seen}
use Rattle.test_subscriber.specs.Answers.{Reaches, Stages, Stays}
use Rattle.test_subscriber.specs.Copies.{sub_fault, RefusedBy, ChangesCopy, Leaves, StaysCopy}
use Rattle.test_subscriber.specs.Hearing.{RowsChange, changed_rows, change_in, staged}
use Rattle.test_subscriber.specs.RowChanges.{Found}
use Rattle.test_subscriber.specs.Views.{copy_of, IsKnownAt, shape_in, known_in, kept_in, seen_in, machine_view, machine_with}
use Rattle.test_subscriber.specs.declared.fault.SubFault.{SubFault}
use Rattle.test_subscriber.specs.declared.fault.SubFault.TheVariants.{NoRelation}
use Rattle.test_subscriber.specs.declared.phase.Phase.{Phase}
use Rattle.test_subscriber.specs.declared.replica.Replica.{Replica}
use Rattle.test_subscriber.specs.declared.shape.TableShape.{TableShape}
use Rattle.test_subscriber.specs.declared.table_copy.TableCopy.{TableCopy}
use Rattle.test_subscriber.proofs.CopyLemmas.{IsFirst, first_has, first_there, found_at, written}
use Rattle.filter_tree.proofs.Tests.{by_test}
use Rattle.tables_log.proofs.PlaceLemmas.{number_is}

-- ---- one copy changes

module _ (phase : Phase) (at : ℕ) (wants : Bool) (copies : List TableCopy) (oid place : ℕ) (old new : TableCopy)
    (known : IsKnownAt copies oid place) (is : old ≡ get_or copies place old) where
  first : IsFirst copies oid place old
  first = subst (IsFirst copies oid place) (sym is) (first_there copies oid place old known.there known.within)

  old_there : copy_of copies oid ≡ Some old
  old_there = found_at copies oid place known.there ∙ first.at

  is_staged : (change : RowsChange) → change_in oid change (machine_with phase at wants copies)
      ≡ staged (machine_with phase at wants copies) oid (change old.shape (seen old.rows))
  is_staged change =
      let came : known_in (copy_of copies oid) ≡ true = known.known in
      rw came (ap (λ found. changed_rows (shape_in found) (seen_in found) oid change
      (machine_with phase at wants copies)) old_there)

  module _ (has : new.shape ≡ old.shape) where
    new_oid : new.shape.relation.oid ≡ oid
    new_oid = ap (λ (shape : TableShape). shape.relation.oid) has ∙ first_has copies oid place old first

    -- what both show alike is shown as before
    as_before : {A : Type 0} (show : Option TableCopy → A) → show (Some new) ≡ show (Some old)
        → (other : ℕ) → show (copy_of (slice_set copies place new) other) ≡ show (copy_of copies other)
    as_before show same other = ap show (written copies oid place old new other first new_oid) ∙ by_test (other == oid)
        (λ here. let equal : other ≡ oid = number_is other oid here in
        rw here (same ∙ ap show (sym old_there) ∙ ap (λ n. show (copy_of copies n)) (sym equal)))
        (λ differs. rw differs refl)

  module _ (stays : StaysCopy old new) where
    pub stays_there : Stays (machine_with phase at wants copies)
        (machine_with phase at wants (slice_set copies place new))
    stays_there = record {
      phase = refl;
      position = refl;
      wants_reply = refl;
      kept = as_before stays.shape shape_in (ap Some stays.shape);
      known = λ other. refl;
      rows = λ other key. as_before stays.shape (λ found. kept_in found key) (stays.keeps key) other;
      work = λ other key. as_before stays.shape (λ found. kept_in found key) (stays.keeps key) other;
    }

    reaches : (outcome : Result Found SubFault) → Leaves outcome (seen new.rows)
        → Reaches (machine_with phase at wants (slice_set copies place new))
        (staged (machine_with phase at wants copies) oid outcome)
    reaches (Err fault) leaves = leaves
    reaches (Ok found) leaves = record {
      phase = refl;
      position = refl;
      wants_reply = refl;
      kept = as_before stays.shape shape_in (ap Some stays.shape);
      known = as_before stays.shape known_in stays.is_known;
      rows = λ other key. as_before stays.shape (λ shown. kept_in shown key) (stays.keeps key) other;
      work = λ other key. ap (λ shown. seen_in shown key)
          (written copies oid place old new other first (new_oid stays.shape))
          ∙ by_test (other == oid) (λ here. rw here (leaves key)) (λ differs. rw differs refl);
    }

    pub changes : (change : RowsChange) → Leaves (change old.shape (seen old.rows)) (seen new.rows)
        → Reaches (machine_with phase at wants (slice_set copies place new))
        (change_in oid change (machine_with phase at wants copies))
    changes change leaves =
        subst (Reaches (machine_with phase at wants (slice_set copies place new))) (sym (is_staged change))
        (reaches (change old.shape (seen old.rows)) leaves)

  by_fault : (change : RowsChange) → (fault : Option SubFault)
      → TellsFault fault (change old.shape (seen old.rows))
      → TellsFault fault (change_in oid change (machine_with phase at wants copies))
  by_fault change None tells = tt
  by_fault change (Some fault) tells = is_staged change ∙ ap (staged (machine_with phase at wants copies) oid) tells

  pub refuses : (change : RowsChange) (error : SubFault) → RefusedBy (change old.shape (seen old.rows)) error
      → RefusedBy (change_in oid change (machine_with phase at wants copies)) error
  refuses change error refused = by_fault change (sub_fault error) refused

-- what staging a change in the copy at a place returns and leaves
module _ (self after : Replica) (oid place : ℕ) (old new : TableCopy) (known : IsKnownAt self.copies.items oid place)
    (is : old ≡ get_or self.copies.items place old)
    (written_is : machine_view after ≡ machine_with self.phase self.position self.wants_reply
    (slice_set self.copies.items place new)) (change : RowsChange) where
  stays_staged : StaysCopy old new → Stays (machine_view self) (machine_view after)
  stays_staged stays = subst (Stays (machine_view self)) (sym written_is)
      (stays_there self.phase self.position self.wants_reply self.copies.items oid place old new known is stays)

  pub stages : (result : Result (Unit {0}) SubFault) → ChangesCopy change old result new
      → Stages (change_in oid change) self result after
  stages (Ok done) changed = record {
    ok = subst (λ machine. Reaches machine (change_in oid change (machine_view self))) (sym written_is)
        (changes self.phase self.position self.wants_reply self.copies.items oid place old new known is changed.stays
        change changed.ok);
    fault = tt;
    stays = stays_staged changed.stays;
  }
  stages (Err error) changed = record {
    ok = tt;
    fault = refuses self.phase self.position self.wants_reply self.copies.items oid place old new known is change
        error changed.fault;
    stays = stays_staged changed.stays;
  }

-- a change of a table whose Relation did not come
pub unknown_refuses : (phase : Phase) (at : ℕ) (wants : Bool) (copies : List TableCopy) (oid : ℕ) (change : RowsChange)
    → known_in (copy_of copies oid) ≡ false
    → change_in oid change (machine_with phase at wants copies) ≡ Err (NoRelation oid)
unknown_refuses phase at wants copies oid change unknown = rw unknown refl

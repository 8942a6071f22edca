-- What happens to a subscriber's machine when a Relation comes.
use Rattle.std.proofs.Common.{◌≡◌, ℕ, Bool, true, false, List, [], ◌∷◌, ◌++◌, get_or, refl, sym, ◌∙◌, ap, subst}
use Rattle.std.specs.Prelude.{Option, Some, None, Ok, Err, ◌==◌, slice_set}
use Rattle.std.specs.Option.{option_map}
use Rattle.filter_tree.specs.Datum.{Datum}
use Rattle.filter_tree.specs.declared.table.ColType.{ColType}
use Rattle.pgoutput_msgs.specs.declared.relation.Relation.{Relation}
use Rattle.table_changes.proofs.TableLemmas.{some_is}
use Rattle.tables_log.specs.Staging.{kept, seen}
use Rattle.test_subscriber.specs.Answers.{Reaches}
use Rattle.test_subscriber.specs.Hearing.{learn_as, learn_new, learned, recognized, hear_relation}
use Rattle.test_subscriber.specs.Machine.{Alike}
use Rattle.test_subscriber.specs.SameRelation.{same_relation}
use Rattle.test_subscriber.specs.Shapes.{kinds_of, shaped, shape_of}
use Rattle.test_subscriber.specs.Views.{copy_of, place_of, shape_in, known_in, kept_in, seen_in, machine_with}
use Rattle.test_subscriber.specs.declared.fault.SubFault.TheVariants.{OutOfPlace, BadValue}
use Rattle.test_subscriber.specs.declared.phase.Phase.{Phase}
use Rattle.test_subscriber.specs.declared.shape.TableShape.{TableShape}
use Rattle.test_subscriber.specs.declared.table_copy.TableCopy.{TableCopy}
use Rattle.test_subscriber.proofs.CopyLemmas.{IsFirst, first_has, first_there, found_at, found_nowhere, written, added, place_within}
use Rattle.filter_tree.proofs.Tests.{by_test}
use Rattle.tables_log.proofs.PlaceLemmas.{number_is}

-- ---- a Relation that is kept

module _ (phase : Phase) (at : ℕ) (wants : Bool) (copies : List TableCopy) (place : ℕ) (old : TableCopy)
    (relation : Relation)
    (there : place_of copies relation.oid ≡ Some place) (is : old ≡ get_or copies place old) where
  first : IsFirst copies relation.oid place old
  first = subst (IsFirst copies relation.oid place) (sym is)
      (first_there copies relation.oid place old there (place_within copies relation.oid place there))

  old_there : copy_of copies relation.oid ≡ Some old
  old_there = found_at copies relation.oid place there ∙ first.at

  as_kept : hear_relation relation (machine_with phase at wants copies)
      ≡ learn_as (Some old.shape) relation (machine_with phase at wants copies)
  as_kept = ap (λ found. learn_as (shape_in found) relation (machine_with phase at wants copies)) old_there

  pub differs : same_relation old.shape.relation relation ≡ false
      → hear_relation relation (machine_with phase at wants copies) ≡ Err OutOfPlace
  differs other = as_kept ∙ rw other refl

  has : old.shape.relation.oid ≡ relation.oid
  has = first_has copies relation.oid place old first

  abbrev pub came : TableCopy
  came = record old { is_known = true }

  -- what both show alike is shown as before
  as_before : {A : Type 0} (show : Option TableCopy → A) → show (Some came) ≡ show (Some old)
      → (other : ℕ) → show (copy_of (slice_set copies place came) other) ≡ show (copy_of copies other)
  as_before show same other = ap show (written copies relation.oid place old came other first has)
      ∙ by_test (other == relation.oid)
      (λ here. let equal : other ≡ relation.oid = number_is other relation.oid here in
      rw here (same ∙ ap show (sym old_there) ∙ ap (λ n. show (copy_of copies n)) (sym equal)))
      (λ apart. rw apart refl)

  recognized_so : Alike (machine_with phase at wants (slice_set copies place came))
      (recognized relation.oid (machine_with phase at wants copies))
  recognized_so = record {
    phase = refl;
    position = refl;
    wants_reply = refl;
    kept = as_before shape_in refl;
    known = λ other. ap known_in (written copies relation.oid place old came other first has)
        ∙ by_test (other == relation.oid) (λ here. rw here refl) (λ apart. rw apart refl);
    rows = λ other key. as_before (λ found. kept_in found key) refl other;
    work = λ other key. as_before (λ found. seen_in found key) refl other;
  }

  pub recognizes : same_relation old.shape.relation relation ≡ true
      → Reaches (machine_with phase at wants (slice_set copies place came))
      (hear_relation relation (machine_with phase at wants copies))
  recognizes same =
      let known : learn_as (Some old.shape) relation (machine_with phase at wants copies)
      ≡ Ok (recognized relation.oid (machine_with phase at wants copies)) = rw same refl in
      subst (Reaches (machine_with phase at wants (slice_set copies place came))) (sym (as_kept ∙ known)) recognized_so

-- ---- a new Relation

shape_says : (relation : Relation) (kinds : Option (List ColType)) (shape : TableShape)
    → option_map (λ (known : List ColType). shaped relation known) kinds ≡ Some shape → shape.relation ≡ relation
shape_says relation None shape h = absurd cc
shape_says relation (Some kinds) shape h =
    let same : shaped relation kinds ≡ shape = some_is (shaped relation kinds) shape h in
    ap (λ (s : TableShape). s.relation) (sym same)

module _ (phase : Phase) (at : ℕ) (wants : Bool) (copies : List TableCopy) (relation : Relation)
    (nowhere : place_of copies relation.oid ≡ None) where
  none_there : copy_of copies relation.oid ≡ None
  none_there = found_nowhere copies relation.oid nowhere

  as_new : hear_relation relation (machine_with phase at wants copies)
      ≡ learn_new (shape_of relation) relation.oid (machine_with phase at wants copies)
  as_new = ap (λ found. learn_as (shape_in found) relation (machine_with phase at wants copies)) none_there

  pub unknown_type : shape_of relation ≡ None
      → hear_relation relation (machine_with phase at wants copies) ≡ Err BadValue
  unknown_type none = as_new ∙ ap (λ shape. learn_new shape relation.oid (machine_with phase at wants copies)) none

  module _ (shape : TableShape) (new : TableCopy) (says : shape_of relation ≡ Some shape)
      (new_shape : new.shape ≡ shape) (new_known : new.is_known ≡ true)
      (new_kept : (key : List Datum) → kept new.rows key ≡ None)
      (new_seen : (key : List Datum) → seen new.rows key ≡ None) where
    has_oid_too : new.shape.relation.oid ≡ relation.oid
    has_oid_too = ap (λ (s : TableShape). s.relation.oid) new_shape
        ∙ ap (λ (r : Relation). r.oid) (shape_says relation (kinds_of relation.columns) shape says)

    -- what is not shown of the new copy is shown as before
    as_before_new : {A : Type 0} (show : Option TableCopy → A) → show (Some new) ≡ show None
        → (other : ℕ) → show (copy_of (copies ++ new ∷ []) other) ≡ show (copy_of copies other)
    as_before_new show same other = ap show (added copies relation.oid new other nowhere has_oid_too)
        ∙ by_test (other == relation.oid)
        (λ here. let equal : other ≡ relation.oid = number_is other relation.oid here in
        rw here (same ∙ ap show (sym none_there) ∙ ap (λ n. show (copy_of copies n)) (sym equal)))
        (λ apart. rw apart refl)

    learned_so : Alike (machine_with phase at wants (copies ++ new ∷ []))
        (learned relation.oid shape (machine_with phase at wants copies))
    learned_so = record {
      phase = refl;
      position = refl;
      wants_reply = refl;
      kept = λ other. ap shape_in (added copies relation.oid new other nowhere has_oid_too)
          ∙ by_test (other == relation.oid) (λ here. rw here (ap Some new_shape)) (λ apart. rw apart refl);
      known = λ other. ap known_in (added copies relation.oid new other nowhere has_oid_too)
          ∙ by_test (other == relation.oid) (λ here. rw here new_known) (λ apart. rw apart refl);
      rows = λ other key. as_before_new (λ found. kept_in found key) (new_kept key) other;
      work = λ other key. as_before_new (λ found. seen_in found key) (new_seen key) other;
    }

    pub learns : Reaches (machine_with phase at wants (copies ++ new ∷ []))
        (hear_relation relation (machine_with phase at wants copies))
    learns = subst (Reaches (machine_with phase at wants (copies ++ new ∷ [])))
        (sym (as_new ∙ ap (λ found. learn_new found relation.oid (machine_with phase at wants copies)) says)) learned_so

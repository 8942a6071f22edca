-- What happens to a subscriber's machine when all copies of tables change, or a new one comes.
use Rattle.std.proofs.Common.{◌≡◌, ℕ, Bool, false, List, ◌++◌, refl, sym, ◌∙◌, ap, max, length, take, drop}
use Rattle.std.specs.Prelude.{Option, Some, None}
use Rattle.filter_tree.specs.Datum.{Datum}
use Rattle.test_subscriber.specs.Copies.{OfEach, SettlesCopy, ForgetsCopy}
use Rattle.test_subscriber.specs.Hearing.{committed}
use Rattle.test_subscriber.specs.Machine.{Alike, stopped}
use Rattle.test_subscriber.specs.Views.{copy_of, shape_in, known_in, kept_in, seen_in, machine_with}
use Rattle.test_subscriber.specs.declared.phase.Phase.{Phase}
use Rattle.test_subscriber.specs.declared.phase.Phase.TheVariants.{Shut, Idle}
use Rattle.test_subscriber.specs.declared.table_copy.TableCopy.{TableCopy}
use Rattle.tables_log.proofs.PlaceLemmas.{take_front}

-- ---- what is staged is kept

settled_shape : (old new : Option TableCopy) → OfEach SettlesCopy old new → shape_in new ≡ shape_in old
settled_shape None None does = refl
settled_shape (Some old) (Some new) does = ap Some does.shape
settled_shape None (Some new) does = absurd does
settled_shape (Some old) None does = absurd does

settled_known : (old new : Option TableCopy) → OfEach SettlesCopy old new → known_in new ≡ known_in old
settled_known None None does = refl
settled_known (Some old) (Some new) does = does.is_known
settled_known None (Some new) does = absurd does
settled_known (Some old) None does = absurd does

settled_kept : (old new : Option TableCopy) (key : List Datum) → OfEach SettlesCopy old new
    → kept_in new key ≡ seen_in old key
settled_kept None None key does = refl
settled_kept (Some old) (Some new) key does = does.keeps key
settled_kept None (Some new) key does = absurd does
settled_kept (Some old) None key does = absurd does

settled_seen : (old new : Option TableCopy) (key : List Datum) → OfEach SettlesCopy old new
    → seen_in new key ≡ seen_in old key
settled_seen None None key does = refl
settled_seen (Some old) (Some new) key does = does.sees key
settled_seen None (Some new) key does = absurd does
settled_seen (Some old) None key does = absurd does

pub settled : (phase : Phase) (at end_lsn : ℕ) (wants : Bool) (olds news : List TableCopy)
    → ((oid : ℕ) → OfEach SettlesCopy (copy_of olds oid) (copy_of news oid))
    → Alike (machine_with Idle (max at end_lsn) wants news) (committed end_lsn (machine_with phase at wants olds))
settled phase at end_lsn wants olds news does = record {
  phase = refl;
  position = refl;
  wants_reply = refl;
  kept = λ oid. settled_shape (copy_of olds oid) (copy_of news oid) (does oid);
  known = λ oid. settled_known (copy_of olds oid) (copy_of news oid) (does oid);
  rows = λ oid key. settled_kept (copy_of olds oid) (copy_of news oid) key (does oid);
  work = λ oid key. settled_seen (copy_of olds oid) (copy_of news oid) key (does oid);
}

-- ---- what is staged is discarded

forgotten_shape : (old new : Option TableCopy) → OfEach ForgetsCopy old new → shape_in new ≡ shape_in old
forgotten_shape None None does = refl
forgotten_shape (Some old) (Some new) does = ap Some does.shape
forgotten_shape None (Some new) does = absurd does
forgotten_shape (Some old) None does = absurd does

forgotten_known : (old new : Option TableCopy) → OfEach ForgetsCopy old new → known_in new ≡ false
forgotten_known None None does = refl
forgotten_known (Some old) (Some new) does = does.is_known
forgotten_known None (Some new) does = absurd does
forgotten_known (Some old) None does = absurd does

forgotten_kept : (old new : Option TableCopy) (key : List Datum) → OfEach ForgetsCopy old new
    → kept_in new key ≡ kept_in old key
forgotten_kept None None key does = refl
forgotten_kept (Some old) (Some new) key does = does.keeps key
forgotten_kept None (Some new) key does = absurd does
forgotten_kept (Some old) None key does = absurd does

forgotten_seen : (old new : Option TableCopy) (key : List Datum) → OfEach ForgetsCopy old new
    → seen_in new key ≡ kept_in old key
forgotten_seen None None key does = refl
forgotten_seen (Some old) (Some new) key does = does.sees key
forgotten_seen None (Some new) key does = absurd does
forgotten_seen (Some old) None key does = absurd does

pub forgotten : (phase : Phase) (at : ℕ) (wants : Bool) (olds news : List TableCopy)
    → ((oid : ℕ) → OfEach ForgetsCopy (copy_of olds oid) (copy_of news oid))
    → Alike (machine_with Shut at wants news) (stopped (machine_with phase at wants olds))
forgotten phase at wants olds news does = record {
  phase = refl;
  position = refl;
  wants_reply = refl;
  kept = λ oid. forgotten_shape (copy_of olds oid) (copy_of news oid) (does oid);
  known = λ oid. forgotten_known (copy_of olds oid) (copy_of news oid) (does oid);
  rows = λ oid key. forgotten_kept (copy_of olds oid) (copy_of news oid) key (does oid);
  work = λ oid key. forgotten_seen (copy_of olds oid) (copy_of news oid) key (does oid);
}

-- ---- all items of a list are written

pub written_over : {X : Type 0} (count : ℕ) (xs items : List X) → length xs ≡ count
    → take count (xs ++ drop (length xs) items) ≡ xs
written_over count xs items same = ap (λ n. take n (xs ++ drop (length xs) items)) (sym same)
    ∙ take_front xs (drop (length xs) items)

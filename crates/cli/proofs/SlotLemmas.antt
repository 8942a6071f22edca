-- A book whose slot a stream acquires and releases again, to see whether it is in use.
use Rattle.std.proofs.Common.{◌≡◌, ℕ, zero, suc, List, [], ◌∷◌, Bool, true, false, if◌then◌else◌, refl, sym, ◌∙◌, ap, subst, arith}
use Rattle.std.specs.Prelude.{Option, Some, None, nat_lt, slice_get, slice_set}
use Rattle.std.proofs.lemmas.Bool.{ltb-true}
use Rattle.std.proofs.lemmas.Option.{slice_get_within}
use Rattle.filter_tree.proofs.Tests.{by_test}
use Rattle.table_changes.proofs.TableLemmas.{some_is}
use Rattle.tables_log.specs.BookView.{book_slots}
use Rattle.tables_log.specs.Committing.{ChangesSlots, IsKept}
use Rattle.tables_log.specs.Slots.{AreInUse, KeepsUse, changed, confirmed_at, released, slot_fault, start_fault, started, with_stream}
use Rattle.tables_log.specs.declared.book.Book.{Book}
use Rattle.tables_log.specs.declared.error.StartError.{StartError}
use Rattle.tables_log.specs.declared.error.StartError.TheVariants.{Ahead, InUse, NoSlot}
use Rattle.tables_log.specs.declared.slots.Slot.{Slot}
use Rattle.tables_log.proofs.PlaceLemmas.{get_set_here}
use Rattle.copy_both.proofs.StartBounds.{IsStartable, faultless_start}
use Rattle.publisher_desk.specs.SlotEvents.{KeepsConfirmed}
use Rattle.cli.specs.Views.{is_in_use, taken_at, taken_of}

-- ---- a book that stays

pub kept_changes : (before after : Book) → IsKept before after → ChangesSlots before after (book_slots after)
kept_changes before after kept = record {
  checked = kept.checked;
  limit = kept.limit;
  rows = kept.rows;
  log = kept.log;
  slots_are = refl;
}

pub kept_uses : (before after : Book) → IsKept before after → KeepsUse (book_slots before) (book_slots after)
kept_uses before after kept used are = subst (AreInUse used) (sym kept.slots_are) are

pub kept_confirmed : (before after : Book) → IsKept before after
    → KeepsConfirmed (book_slots before) (book_slots after)
kept_confirmed before after kept number = ap (λ (slots : List Slot). confirmed_at slots number) kept.slots_are

pub no_change : (book : Book) → IsKept book book
no_change book = record {
  checked = refl;
  limit = refl;
  rows = λ table number value. refl;
  log = refl;
  slots_are = refl;
}

pub then_kept : (before mid after : Book) → IsKept before mid → IsKept mid after → IsKept before after
then_kept before mid after first second = record {
  checked = second.checked ∙ first.checked;
  limit = second.limit ∙ first.limit;
  rows = λ table number value. second.rows table number value ∙ first.rows table number value;
  log = second.log ∙ first.log;
  slots_are = second.slots_are ∙ first.slots_are;
}

-- ---- a slot that is free

restored : (slots : List Slot) (number : ℕ) (mid slot : Slot) → slice_get slots number ≡ Some slot
    → slice_set (slice_set slots number mid) number slot ≡ slots
restored [] number mid slot at = refl
restored (first ∷ slots) zero mid slot at = ap (λ (one : Slot). one ∷ slots) (sym (some_is first slot at))
restored (first ∷ slots) (suc number) mid slot at =
    ap (λ (others : List Slot). first ∷ others) (restored slots number mid slot at)

unused : (slot : Slot) → slot.taken ≡ false → with_stream false slot ≡ slot
unused slot free = ap (λ (taken : Bool). with_stream taken slot) (sym free)

-- it is as before after a stream has acquired and released it
looked_same : (slots : List Slot) (end number position : ℕ) → start_fault slots end number position ≡ None
    → released (started slots number) number ≡ slots
looked_same slots end number position none =
    let its : IsStartable (slice_get slots number) end position =
    faultless_start (slice_get slots number) end position none in
    let slot : Slot = its.slot in
    let mid : Slot = with_stream true slot in
    let begun : started slots number ≡ slice_set slots number mid =
    ap (λ (found : Option Slot). changed slots number found (with_stream true)) its.exists in
    let there : slice_get (slice_set slots number mid) number ≡ Some mid =
    get_set_here slots number mid (slice_get_within slots number slot its.exists) in
    let ended : released (slice_set slots number mid) number
    ≡ slice_set (slice_set slots number mid) number (with_stream false slot) =
    ap (λ (found : Option Slot). changed (slice_set slots number mid) number found (with_stream false)) there in
    ap (λ (others : List Slot). released others number) begun
    ∙ (ended
    ∙ (ap (λ (one : Slot). slice_set (slice_set slots number mid) number one) (unused slot its.free)
    ∙ restored slots number mid slot its.exists))

pub book_looked : (before mid after : Book) (end number position : ℕ)
    → start_fault (book_slots before) end number position ≡ None
    → ChangesSlots before mid (started (book_slots before) number)
    → ChangesSlots mid after (released (book_slots mid) number) → IsKept before after
book_looked before mid after end number position none first second = record {
  checked = second.checked ∙ first.checked;
  limit = second.limit ∙ first.limit;
  rows = λ table number value. second.rows table number value ∙ first.rows table number value;
  log = second.log ∙ first.log;
  slots_are = second.slots_are
      ∙ (ap (λ (slots : List Slot). released slots number) first.slots_are
      ∙ looked_same (book_slots before) end number position none);
}

-- ---- whether a slot is in use

pub untaken : (slots : List Slot) (end number position : ℕ) → start_fault slots end number position ≡ None
    → taken_at slots number ≡ false
untaken slots end number position none =
    let its : IsStartable (slice_get slots number) end position =
    faultless_start (slice_get slots number) end position none in
    ap taken_of its.exists ∙ its.free

-- a start from 0 is refused by that alone, or since there is no such slot
pub refused_taken : (found : Option Slot) (end : ℕ) (error : StartError) → slot_fault found end 0 ≡ Some error
    → taken_of found ≡ is_in_use error
refused_taken None end error is = ap is_in_use (some_is NoSlot error is)
refused_taken (Some slot) end error is = by_test (nat_lt end 0)
    (λ yes. absurd (omega (arith, ltb-true end 0 yes)))
    (λ no. by_test slot.taken
    (λ used. used ∙ ap is_in_use (some_is InUse error
    (sym (ap (λ b. if b then Some Ahead else (if slot.taken then Some InUse else None)) no
    ∙ ap (λ b. if b then Some InUse else None) used) ∙ is)))
    (λ free. absurd (let wrong : None ≡ Some error =
    sym (ap (λ b. if b then Some Ahead else (if slot.taken then Some InUse else None)) no
    ∙ ap (λ b. if b then Some InUse else None) free) ∙ is in cc)))

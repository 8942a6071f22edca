-- How far the slots of the closed book are confirmed.
use Rattle.std.proofs.Common.{◌≡◌, ◌≢◌, ℕ, zero, suc, ◌+◌, ◌<◌, ◌≤◌, false, List, [], ◌∷◌, length, refl, sym, ap, ◌∙◌, subst, arith, ltb}
use Rattle.std.specs.Prelude.{Err, None, Ok, OnErr, OnOk, Option, Result, Some, max, replicate, slice_get, slice_set}
use Rattle.std.proofs.lemmas.Bool.{ltb-false, ltb-true}
use Rattle.std.proofs.lemmas.List.{get_or-replicate, length-replicate}
use Rattle.std.proofs.lemmas.Option.{get_or_from_slice_get, slice_get-get_or, slice_get_within}
use mathlib.Core.Logic.{dite}
use native.Mathlib.Decide.{ℕ_discrete}
use Rattle.filter_tree.proofs.Tests.{by_test}
use Rattle.tables_log.specs.BookView.{book_slots}
use Rattle.tables_log.specs.Committing.{ChangesSlots}
use Rattle.tables_log.specs.Slots.{AreInUse, changed, confirmed_at, confirmed_of, confirmed_up_to, raised}
use Rattle.tables_log.specs.declared.book.Book.{Book}
use Rattle.tables_log.specs.declared.slots.Slot.{Slot}
use Rattle.tables_log.proofs.PlaceLemmas.{get_set_beside, get_set_here}
use Rattle.publisher_desk.specs.SlotEvents.{no_use}

abbrev free_slot : Slot
free_slot = record { confirmed = 0; taken = false }

-- ---- slots that are free, and of which nothing is confirmed

free_is : (count number : ℕ) (slot : Slot) → slice_get (replicate count free_slot) number ≡ Some slot
    → slot ≡ free_slot
free_is count number slot at =
    let low = slice_get_within (replicate count free_slot) number slot at in
    sym (get_or_from_slice_get (replicate count free_slot) number slot free_slot at)
    ∙ get_or-replicate count number free_slot free_slot (omega (arith, low, length-replicate count free_slot))

pub none_in_use : (slots : List Slot) (count : ℕ) → slots ≡ replicate count free_slot → AreInUse no_use slots
none_in_use slots count are = subst (AreInUse no_use) (sym are)
    (λ number slot at. ap (λ (one : Slot). one.taken) (free_is count number slot at))

none_at : (count number : ℕ) (found : Option Slot) → slice_get (replicate count free_slot) number ≡ found
    → confirmed_of found ≡ 0
none_at count number None at = refl
none_at count number (Some slot) at = ap (λ (one : Slot). one.confirmed) (free_is count number slot at)

-- ---- one slot is confirmed

here : (slots : List Slot) (number position : ℕ) (found : Option Slot) → slice_get slots number ≡ found
    → number < length slots
    → confirmed_at (changed slots number found (raised position)) number ≡ max (confirmed_of found) position
here slots number position None at low =
    let clash : None ≡ Some _ = sym at ∙ slice_get-get_or slots number free_slot low in absurd cc
here slots number position (Some slot) at low = ap confirmed_of (get_set_here slots number (raised position slot) low)

beside : (slots : List Slot) (number other position : ℕ) (found : Option Slot) → other ≢ number
    → confirmed_at (changed slots number found (raised position)) other ≡ confirmed_at slots other
beside slots number other position None apart = refl
beside slots number other position (Some slot) apart =
    ap confirmed_of (get_set_beside slots number other (raised position slot) apart)

long_set : (slots : List Slot) (number : ℕ) (slot : Slot) → length (slice_set slots number slot) ≡ length slots
long_set [] number slot = refl
long_set (one ∷ slots) zero slot = refl
long_set (one ∷ slots) (suc number) slot = ap suc (long_set slots number slot)

long_changed : (slots : List Slot) (number position : ℕ) (found : Option Slot)
    → length (changed slots number found (raised position)) ≡ length slots
long_changed slots number position None = refl
long_changed slots number position (Some slot) = long_set slots number (raised position slot)

-- none has a place at the end of the list or after it
none_after : (slots : List Slot) (number : ℕ) (found : Option Slot) → slice_get slots number ≡ found
    → length slots ≤ number → confirmed_of found ≡ 0
none_after slots number None at high = refl
none_after slots number (Some slot) at high =
    let low = slice_get_within slots number slot at in absurd (omega (arith, low, high))

-- ---- one after another

-- There are so many slots. Those before this place are confirmed as these others are, and nothing is confirmed for
-- those from it on.
pub record AreConfirmedTo (count place : ℕ) (slots others : List Slot) : Type 0 where
  pub long : length slots ≡ count
  pub done : (slot : ℕ) → slot < place → confirmed_at slots slot ≡ confirmed_at others slot
  pub left : (slot : ℕ) → place ≤ slot → confirmed_at slots slot ≡ 0

pub none_confirmed : (slots others : List Slot) (count : ℕ) → slots ≡ replicate count free_slot
    → AreConfirmedTo count 0 slots others
none_confirmed slots others count are = record {
  long = ap length are ∙ length-replicate count free_slot;
  done = λ slot low. absurd (omega (arith, low));
  left = λ slot high. ap (λ (list : List Slot). confirmed_at list slot) are
      ∙ none_at count slot (slice_get (replicate count free_slot) slot) refl;
}

module _ (slots others : List Slot) (count place position : ℕ) (low : place < count)
    (is : position ≡ confirmed_at others place) (so_far : AreConfirmedTo count place slots others) where
  at_place : (slot : ℕ) → slot ≡ place
      → confirmed_at (confirmed_up_to slots place position) slot ≡ confirmed_at others slot
  at_place slot same =
      let long = so_far.long in
      let none : confirmed_at slots place ≡ 0 = so_far.left place (omega arith) in
      let most = here slots place position (slice_get slots place) refl (omega (arith, low, long)) in
      let there : confirmed_at (confirmed_up_to slots place position) place ≡ position = omega (arith, most, none) in
      ap (confirmed_at (confirmed_up_to slots place position)) same ∙ there ∙ is ∙ ap (confirmed_at others) (sym same)

  next : AreConfirmedTo count (place + 1) (confirmed_up_to slots place position) others
  next = record {
    long = long_changed slots place position (slice_get slots place) ∙ so_far.long;
    done = λ slot before. dite (ℕ_discrete slot place)
        (λ same. at_place slot same)
        (λ apart. beside slots place slot position (slice_get slots place) apart
        ∙ so_far.done slot (omega (arith, before, apart)));
    left = λ slot after. beside slots place slot position (slice_get slots place)
        (λ same. absurd (omega (arith, after, same))) ∙ so_far.left slot (omega (arith, after));
  }

pub confirmed_next : {E : Type 0} (old new : Book) (others : List Slot) (count place position : ℕ)
    (result : Result (Unit {0}) E) → place < count → position ≡ confirmed_at others place
    → AreConfirmedTo count place (book_slots old) others
    → OnOk result (ChangesSlots old new (confirmed_up_to (book_slots old) place position))
    → OnErr result (position < position) → AreConfirmedTo count (place + 1) (book_slots new) others
confirmed_next old new others count place position (Ok done) low is so_far ok err =
    subst (λ (slots : List Slot). AreConfirmedTo count (place + 1) slots others) (sym ok.slots_are)
    (next (book_slots old) others count place position low is so_far)
confirmed_next old new others count place position (Err error) low is so_far ok err = absurd (omega (arith, err))

pub all_confirmed : (slots others : List Slot) (count place : ℕ) → AreConfirmedTo count place slots others
    → length others ≤ place → (slot : ℕ) → confirmed_at slots slot ≡ confirmed_at others slot
all_confirmed slots others count place so_far long slot = by_test (ltb slot place)
    (λ less. so_far.done slot (ltb-true slot place less))
    (λ no. let most = ltb-false slot place no in
    so_far.left slot most
    ∙ sym (none_after others slot (slice_get others slot) refl (omega (arith, long, most))))

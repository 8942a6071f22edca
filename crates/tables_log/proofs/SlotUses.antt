-- Which slots are in use, as streams acquire and release them.
use Rattle.std.proofs.Common.{◌≡◌, ◌≢◌, ℕ, List, length, Bool, true, false, refl, sym, ap, ◌∙◌, subst, arith, cond, eq-eqb, ne_eqb}
use Rattle.std.specs.Prelude.{Option, Some, None, slice_get, slice_set, replicate}
use Rattle.std.proofs.lemmas.List.{get_or-replicate, length-replicate}
use Rattle.std.proofs.lemmas.Option.{get_or_from_slice_get, slice_get_within}
use mathlib.Core.Logic.{dite}
use native.Mathlib.Decide.{ℕ_discrete}
use Rattle.tables_log.specs.BookView.{book_slots}
use Rattle.tables_log.specs.Committing.{IsNew}
use Rattle.tables_log.specs.Slots.{AreInUse, KeepsUse, changed, confirmed_up_to, raised, released, started, with_stream, with_use}
use Rattle.tables_log.specs.declared.book.Book.{Book}
use Rattle.tables_log.specs.declared.slots.Slot.{Slot}
use Rattle.tables_log.proofs.PlaceLemmas.{get_set_here, get_set_beside}
use Rattle.shard_checker.specs.CheckedView.{CheckedOf}

free_slots : (count number : ℕ) (free slot : Slot) → slice_get (replicate count free) number ≡ Some slot → slot ≡ free
free_slots count number free slot at =
    let low = slice_get_within (replicate count free) number slot at in
    sym (get_or_from_slice_get (replicate count free) number slot free at)
    ∙ get_or-replicate count number free free (omega (arith, low, length-replicate count free))

pub new_unused : (book : Book) (checked : CheckedOf) (limit : ℕ) → IsNew book checked limit
    → AreInUse (λ number. false) (book_slots book)
new_unused book checked limit new = subst (AreInUse (λ number. false)) (sym new.slots)
    (λ number slot at. ap (λ (one : Slot). one.taken)
    (free_slots (length checked.catalog.subscriptions) number (record { confirmed = 0; taken = false }) slot at))

-- ---- one slot changes

some_of : (x y : Slot) → Some x ≡ Some y → x ≡ y
some_of x y same = cc

test_here : (used : ℕ → Bool) (number other : ℕ) (is : Bool) → other ≡ number → with_use number is used other ≡ is
test_here used number other is same = ap (λ b. cond b is (used other)) (eq-eqb other number same)

test_beside : (used : ℕ → Bool) (number other : ℕ) (is : Bool) → other ≢ number
    → with_use number is used other ≡ used other
test_beside used number other is apart = ap (λ b. cond b is (used other)) (ne_eqb other number apart)

set_uses : (used : ℕ → Bool) (slots : List Slot) (number : ℕ) (is : Bool) (slot : Slot)
    → slice_get slots number ≡ Some slot → AreInUse used slots
    → AreInUse (with_use number is used) (slice_set slots number (with_stream is slot))
set_uses used slots number is slot at are other one found =
    dite (ℕ_discrete other number)
    (λ here.
    let low = slice_get_within slots number slot at in
    let same = some_of one (with_stream is slot)
    (sym (subst (λ (n : ℕ). slice_get (slice_set slots number (with_stream is slot)) n ≡ Some one) here found)
    ∙ get_set_here slots number (with_stream is slot) low) in
    ap (λ (s : Slot). s.taken) same ∙ sym (test_here used number other is here))
    (λ apart.
    are other one (sym (get_set_beside slots number other (with_stream is slot) apart) ∙ found)
    ∙ sym (test_beside used number other is apart))

none_uses : (used : ℕ → Bool) (slots : List Slot) (number : ℕ) (is : Bool) → slice_get slots number ≡ None
    → AreInUse used slots → AreInUse (with_use number is used) slots
none_uses used slots number is none are other one found =
    dite (ℕ_discrete other number)
    (λ here. let clash : Some one ≡ None = sym (subst (λ (n : ℕ). slice_get slots n ≡ Some one) here found) ∙ none in
    absurd cc)
    (λ apart. are other one found ∙ sym (test_beside used number other is apart))

changed_uses : (used : ℕ → Bool) (slots : List Slot) (number : ℕ) (is : Bool) (found : Option Slot)
    → slice_get slots number ≡ found → AreInUse used slots
    → AreInUse (with_use number is used) (changed slots number found (with_stream is))
changed_uses used slots number is None at are = none_uses used slots number is at are
changed_uses used slots number is (Some slot) at are = set_uses used slots number is slot at are

pub released_uses : (used : ℕ → Bool) (slots : List Slot) (number : ℕ) → AreInUse used slots
    → AreInUse (with_use number false used) (released slots number)
released_uses used slots number are = changed_uses used slots number false (slice_get slots number) refl are

pub started_uses : (used : ℕ → Bool) (slots : List Slot) (number : ℕ) → AreInUse used slots
    → AreInUse (with_use number true used) (started slots number)
started_uses used slots number are = changed_uses used slots number true (slice_get slots number) refl are

-- ---- what is confirmed

raise_uses : (used : ℕ → Bool) (slots : List Slot) (number position : ℕ) (found : Option Slot)
    → slice_get slots number ≡ found → AreInUse used slots
    → AreInUse used (changed slots number found (raised position))
raise_uses used slots number position None at are other one found = are other one found
raise_uses used slots number position (Some slot) at are other one found =
    dite (ℕ_discrete other number)
    (λ here.
    let low = slice_get_within slots number slot at in
    let same = some_of one (raised position slot)
    (sym (subst (λ (n : ℕ). slice_get (slice_set slots number (raised position slot)) n ≡ Some one) here found)
    ∙ get_set_here slots number (raised position slot) low) in
    ap (λ (s : Slot). s.taken) same ∙ (are number slot at ∙ ap used (sym here)))
    (λ apart. are other one (sym (get_set_beside slots number other (raised position slot) apart) ∙ found))

pub confirmed_uses : (slots : List Slot) (number position : ℕ) → KeepsUse slots (confirmed_up_to slots number position)
confirmed_uses slots number position used are =
    raise_uses used slots number position (slice_get slots number) refl are

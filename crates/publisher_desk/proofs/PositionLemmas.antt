-- Up to where slots are confirmed, and clients were sent the log, at first and after a stream acquires or releases a slot.
use Rattle.std.proofs.Common.{◌≡◌, ℕ, zero, suc, List, length, Bool, true, false, refl, sym, ap, ◌∙◌}
use Rattle.std.specs.Prelude.{Option, Some, None, slice_get, slice_set, replicate}
use Rattle.std.proofs.lemmas.Option.{slice_get_within}
use mathlib.Core.Logic.{dite}
use native.Mathlib.Decide.{ℕ_discrete}
use Rattle.shard_checker.specs.CheckedView.{CheckedOf}
use Rattle.tables_log.specs.BookView.{book_slots}
use Rattle.tables_log.specs.Committing.{IsNew}
use Rattle.tables_log.specs.Slots.{changed, confirmed_at, confirmed_of, released, started, with_stream}
use Rattle.tables_log.specs.declared.book.Book.{Book}
use Rattle.tables_log.specs.declared.slots.Slot.{Slot}
use Rattle.tables_log.proofs.PlaceLemmas.{get_set_beside, get_set_here}
use Rattle.publisher_desk.specs.SlotEvents.{sent_at}
use Rattle.publisher_desk.specs.declared.connection_state.ConnectionState.{ConnectionState}

-- ---- a new book

unconfirmed : (count number : ℕ) → confirmed_at (replicate count (record { confirmed = 0; taken = false })) number ≡ 0
unconfirmed zero number = refl
unconfirmed (suc count) zero = refl
unconfirmed (suc count) (suc number) = unconfirmed count number

pub new_unconfirmed : (book : Book) (checked : CheckedOf) (limit : ℕ) → IsNew book checked limit → (number : ℕ)
    → confirmed_at (book_slots book) number ≡ 0
new_unconfirmed book checked limit new number =
    ap (λ (slots : List Slot). confirmed_at slots number) new.slots
    ∙ unconfirmed (length checked.catalog.subscriptions) number

pub new_unsent : (count : ℕ) (idle : ConnectionState) → idle.sent ≡ 0 → (slot : ℕ) → sent_at (replicate count idle) slot ≡ 0
new_unsent zero idle unsent slot = refl
new_unsent (suc count) idle unsent zero = unsent
new_unsent (suc count) idle unsent (suc slot) = new_unsent count idle unsent slot

-- ---- a slot that is acquired or released

use_stays : (slots : List Slot) (number other : ℕ) (is : Bool) (found : Option Slot) → slice_get slots number ≡ found
    → confirmed_at (changed slots number found (with_stream is)) other ≡ confirmed_at slots other
use_stays slots number other is None at = refl
use_stays slots number other is (Some slot) at =
    dite (ℕ_discrete other number)
    (λ here.
    ap (λ (n : ℕ). confirmed_at (slice_set slots number (with_stream is slot)) n) here
    ∙ (ap confirmed_of (get_set_here slots number (with_stream is slot) (slice_get_within slots number slot at))
    ∙ sym (ap (λ (n : ℕ). confirmed_at slots n) here ∙ ap confirmed_of at)))
    (λ apart. ap confirmed_of (get_set_beside slots number other (with_stream is slot) apart))

pub started_stays : (slots : List Slot) (number other : ℕ)
    → confirmed_at (started slots number) other ≡ confirmed_at slots other
started_stays slots number other = use_stays slots number other true (slice_get slots number) refl

pub released_stays : (slots : List Slot) (number other : ℕ)
    → confirmed_at (released slots number) other ≡ confirmed_at slots other
released_stays slots number other = use_stays slots number other false (slice_get slots number) refl

-- What is seen of a book that was lent is what VIEW shows.
use Rattle.std.proofs.lemmas.List.{length-map}
use Rattle.std.proofs.lemmas.Option.{slice_get_within}
use Rattle.std.proofs.Common.{◌≡◌, ◌<◌, ℕ, zero, suc, Bool, List, [], ◌∷◌, length, map, refl, sym, ap, subst, ◌∙◌, arith}
use Rattle.std.specs.Prelude.{Some, slice_get}
use Rattle.filter_tree.specs.Datum.{Datum}
use Rattle.shard_checker.specs.CheckedView.{CheckedOf, setting_in}
use Rattle.shard_world.proofs.ViewLemmas.{publisher_rows}
use Rattle.shard_world.specs.ViewContents.{AllAt, FoundIn}
use Rattle.shard_world.specs.ViewMeaning.{AreRows}
use Rattle.table_changes.specs.Tables.{holds, no_rows}
use Rattle.tables_log.specs.BookView.{book_checked, book_slots}
use Rattle.tables_log.specs.Slots.{AreInUse, confirmed_at}
use Rattle.tables_log.specs.StandsFor.{Transaction, AreAccepted, StandsFor, after}
use Rattle.tables_log.specs.declared.book.Book.{Book}
use Rattle.tables_log.specs.declared.slots.Slot.{Slot}
use Rattle.tables_log.proofs.StandLemmas.{each_is_logged}
use Rattle.publisher_desk.specs.Lending.{HasSlotsOf}
use Rattle.publisher_desk.specs.Logged.{AreNoted}
use Rattle.publisher_desk.specs.Receipts.{transactions_of}
use Rattle.publisher_desk.specs.Seats.{SeatOf}
use Rattle.publisher_desk.specs.SlotEvents.{advanced_after, confirmed_after, sent_at, use_after}
use Rattle.publisher_desk.specs.declared.connection_state.ConnectionState.{ConnectionState}
use Rattle.publisher_desk.specs.declared.slot_event.SlotEvent.{SlotEvent}
use Rattle.cli.specs.Views.{IsSeen, IsView, progress_at, progress_of, progress_seen, shown_lines, taken_at, view_lines}
use Rattle.cli.specs.declared.publish.view.View.{View}

-- tests of what a list is made into
all_mapped : {X Y : Type 0} (f : X → Y) (P : ℕ → Y → Type 0) (xs : List X) → AllAt (λ number x. P number (f x)) xs
    → AllAt P (map f xs)
all_mapped f P [] all number = tt
all_mapped f P (x ∷ xs) all zero = all zero
all_mapped f P (x ∷ xs) all (suc number) = all_mapped f (λ n. P (suc n)) xs (λ n. all (suc n)) number

all_weaker : {X : Type 0} (P Q : ℕ → X → Type 0) (xs : List X)
    → ((number : ℕ) (x : X) → slice_get xs number ≡ Some x → P number x → Q number x) → AllAt P xs → AllAt Q xs
all_weaker P Q [] weaker all number = tt
all_weaker P Q (x ∷ xs) weaker all zero = weaker zero x refl (all zero)
all_weaker P Q (x ∷ xs) weaker all (suc number) =
    all_weaker (λ n. P (suc n)) (λ n. Q (suc n)) xs (λ n. weaker (suc n)) (λ n. all (suc n)) number

-- ---- how far subscribers are

-- a slot that exists is in use as its state says
taken_is : (used : ℕ → Bool) (slots : List Slot) (number : ℕ) → AreInUse used slots → number < length slots
    → taken_at slots number ≡ used number
taken_is used [] number are low = absurd (omega arith)
taken_is used (slot ∷ slots) zero are low = are zero slot refl
taken_is used (slot ∷ slots) (suc number) are low =
    taken_is (λ n. used (suc n)) slots number (λ n one at. are (suc n) one at) (omega arith)

alike : (confirmed sent : ℕ) (is : Bool) (other given : ℕ) (was : Bool) → confirmed ≡ other → sent ≡ given → is ≡ was
    → progress_of confirmed sent is ≡ progress_of other given was
alike confirmed sent is other given was first second third =
    ap (λ (n : ℕ). progress_of n sent is) first
    ∙ (ap (λ (n : ℕ). progress_of other n is) second ∙ ap (λ (b : Bool). progress_of other given b) third)

-- what is seen of a subscriber is by the events
progress_is : (checked : CheckedOf) (book : Book) (connections : List ConnectionState) (events : List SlotEvent)
    (number : ℕ) → HasSlotsOf checked book connections events → number < length checked.catalog.subscriptions
    → progress_seen (book_slots book) connections number ≡ progress_at events number
progress_is checked book connections events number has low =
    alike (confirmed_at (book_slots book) number) (sent_at connections number) (taken_at (book_slots book) number)
    (confirmed_after events number) (advanced_after events number) (use_after events number)
    (has.confirmed number) (has.sent number)
    (taken_is (use_after events) (book_slots book) number has.used
    (subst (λ (count : ℕ). number < count) (sym has.each) low))

-- ---- all

module _ (checked : CheckedOf) (book : Book) (transactions : List Transaction) (named : book_checked book ≡ checked)
    (stands : StandsFor book transactions) (has : SeatOf) (log_is : transactions_of has.seen ≡ transactions)
    (noted : AreNoted (setting_in checked) has.seen has.notes) where
  -- the tests of a table's rows
  abbrev are_at : ℕ → List (List Datum) → Type 0
  are_at table rows = AreRows (holds (setting_in checked).keys (after (setting_in checked) transactions) table) rows

  pub shows : (connections : List ConnectionState) (tables subscriptions : ℕ) (view : View)
      → tables ≡ length checked.catalog.tables → subscriptions ≡ length checked.catalog.subscriptions
      → HasSlotsOf checked book connections has.events → IsSeen book connections tables subscriptions view
      → IsView checked has (view_lines checked.catalog view)
  shows connections tables subscriptions view all_tables all_slots slots seen =
      let rows : List (List (List Datum)) = map (λ rows. rows.items) view.rows.items in
      record {
        noted = noted;
        transactions = transactions;
        transactions_are = sym log_is;
        rows = rows;
        progress = view.progress.items;
        accepted = subst (λ (its : CheckedOf). AreAccepted (setting_in its) no_rows transactions) named stands.accepted;
        width = length-map view.rows.items (λ rows. rows.items) ∙ seen.width ∙ all_tables;
        are_rows = all_mapped (λ rows. rows.items) are_at view.rows.items
            (all_weaker (λ table rows. FoundIn book table rows.items) (λ table rows. are_at table rows.items)
            view.rows.items
            (λ table rows there found. publisher_rows checked book transactions named stands table rows.items
            found.lists found.in_order)
            seen.rows);
        count = seen.count ∙ all_slots;
        each = all_weaker (λ number one. one ≡ progress_seen (book_slots book) connections number)
            (λ number one. one ≡ progress_at has.events number) view.progress.items
            (λ number one there is.
            is
            ∙ progress_is checked book connections has.events number slots
            (subst (λ (count : ℕ). number < count) (seen.count ∙ all_slots)
            (slice_get_within view.progress.items number one there)))
            seen.each;
        are = ap (λ (log : ℕ). shown_lines checked.catalog log rows view.progress.items)
            (seen.log_is ∙ each_is_logged book transactions stands);
      }

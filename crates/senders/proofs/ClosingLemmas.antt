-- What is compared, put together.
use Rattle.std.proofs.Common.{◌≡◌, ◌≢◌, Bor, ℕ, ◌+◌, ◌<◌, List, [], ◌∷◌, length, map, refl, sym, ◌∙◌, ap, subst, arith, ltb, length-append}
use Rattle.std.proofs.lemmas.Bool.{ltb-true, ltb-false}
use Rattle.std.proofs.lemmas.List.{length-map}
use Rattle.filter_tree.proofs.Tests.{by_test}
use Rattle.std.specs.Prelude.{All, Result, Ok, Err, IfErr, IsErrAnd, OnOk, OnErr}
use Rattle.std.specs.List.{range_with_len}
use Rattle.std.specs.List.Sorted.{IsPermutation, IsNonDecreasingBy}
use Rattle.std.proofs.lemmas.List.Sorted.{length_permutation, All-permutation, IsPermutation-sym}
use Rattle.shard_checker.specs.CheckedView.{CheckedOf, setting_in}
use Rattle.table_changes.specs.Setting.{Setting}
use Rattle.table_changes.specs.Tables.{no_rows}
use Rattle.tables_log.specs.BookView.{book_checked, book_limit, book_log, book_setting, book_slots}
use Rattle.tables_log.specs.Commits.{CommitOf}
use Rattle.tables_log.specs.Committing.{ChangesSlots, IsKept}
use Rattle.tables_log.specs.Slots.{AreInUse, KeepsUse, confirmed_up_to}
use Rattle.tables_log.specs.StandsFor.{StandsFor, AreAccepted, entries_from}
use Rattle.tables_log.specs.declared.book.Book.{Book}
use Rattle.tables_log.specs.declared.slots.Slot.{Slot}
use Rattle.tables_log.proofs.SlotUses.{confirmed_uses}
use Rattle.tables_log.proofs.StandLemmas.{each_is_logged, slots_keep_it}
use Rattle.tables_log.specs.Routes.{commit_in}
use Rattle.publisher_desk.proofs.LoggedLemmas.{length_transactions}
use Rattle.publisher_desk.specs.Counting.{total_receipts, IsCounted}
use Rattle.publisher_desk.specs.Receipts.{ReceiptOf, transactions_of}
use Rattle.publisher_desk.specs.Seats.{SeatOf, receipts, IsForwardSeat, IsTimedSeat}
use Rattle.publisher_desk.specs.declared.note.Note.{Note}
use Rattle.publisher_desk.specs.declared.note.Note.TheVariants.{Committed, Looked}
use Rattle.publisher_desk.specs.declared.note.Reading.{Reading}
use Rattle.senders.specs.CloseCauses.{CanCome, HasOtherTaken, HasStarts, HasWrongReading, IsCloseCause, IsExplainedBy, IsMissing, IsNotLogged, IsRepeated}
use Rattle.senders.specs.CloseReasons.{IsReasonToRefuse, RefusedClose, StartsAre}
use Rattle.senders.specs.Closing.{IsClosed}
use Rattle.publisher_desk.specs.Logged.{AreSeatsIn, RiseTo}
use Rattle.publisher_desk.specs.SlotEvents.{acquisitions, no_use}
use Rattle.publisher_desk.specs.SlotSights.{BeginsWith}
use Rattle.publisher_desk.specs.Viewers.{ClosingOf, IsSeenIn, log_seen}
use Rattle.senders.specs.Gathering.{receipts_in, all_receipts, all_readings, numbers_of, IsRisingSeat}
use Rattle.senders.specs.Histories.{AreInOrder, AreWitnessed, IsLogOfSeats, IsRight}
use Rattle.senders.specs.Replays.{IsAsLong, IsConfirmedAs, IsUnlikeIn, Replays}
use Rattle.senders.specs.Reached.{AllEndReached, AreReached, IsOrder, LacksConnection}
use Rattle.senders.specs.Results.{ServedOf}
use Rattle.senders.specs.Starts.{AreInTime, AreOrdered, IsStartCause}
use Rattle.senders.specs.TakenCommits.{IsTaken, IsComplete}
use Rattle.senders.specs.declared.close_error.CloseError.{CloseError}
use Rattle.senders.specs.declared.close_error.CloseError.TheVariants as f
use Rattle.senders.proofs.KeptConfirmed.{none_in_use}
use Rattle.senders.proofs.LoggedLemmas.{can_come, explained_count, long as logged_long, order_logged}
use Rattle.senders.proofs.NumberLemmas.{rise_is_range}
use Rattle.senders.proofs.ReplayLemmas.{replays_all}
use Rattle.senders.proofs.ResumeLemmas.{all_kept, all_resumed}
use Rattle.senders.proofs.TakenLemmas.{had_all, not_taken, taken_all}

-- ---- slots

pub slots_then : (first old new : Book) (slots : List Slot) → ChangesSlots first old (book_slots old)
    → ChangesSlots old new slots → ChangesSlots first new (book_slots new)
slots_then first old new slots before after = record {
  checked = after.checked ∙ before.checked;
  limit = after.limit ∙ before.limit;
  rows = λ table number value. after.rows table number value ∙ before.rows table number value;
  log = after.log ∙ before.log;
  slots_are = refl;
}

pub uses_after : {E : Type 0} (first : List Slot) (old new : Book) (number position : ℕ) (result : Result (Unit {0}) E)
    → KeepsUse first (book_slots old)
    → OnOk result (ChangesSlots old new (confirmed_up_to (book_slots old) number position))
    → OnErr result (IsKept old new) → KeepsUse first (book_slots new)
uses_after first old new number position (Ok done) before ok err used are =
    subst (AreInUse used) (sym ok.slots_are) (confirmed_uses (book_slots old) number position used (before used are))
uses_after first old new number position (Err error) before ok err used are =
    subst (AreInUse used) (sym err.slots_are) (before used are)

pub slots_after : {E : Type 0} (first old new : Book) (slots : List Slot) (result : Result (Unit {0}) E)
    → ChangesSlots first old (book_slots old)
    → OnOk result (ChangesSlots old new slots) → OnErr result (IsKept old new) → ChangesSlots first new (book_slots new)
slots_after first old new slots (Ok done) before ok err = slots_then first old new slots before ok
slots_after first old new slots (Err error) before ok err = slots_then first old new (book_slots old) before err

-- ---- order

pub in_order : (seats : List SeatOf) (gathered sorted : List ReceiptOf) (high : ℕ)
    → gathered ≡ all_receipts seats → length gathered ≡ high → IsPermutation gathered sorted
    → All (IsRisingSeat high) seats → RiseTo high 0 (numbers_of sorted)
    → AreInOrder seats sorted × (length sorted ≡ high)
in_order seats gathered sorted high all count moved rising rise =
    let long : length sorted ≡ high = length_permutation gathered sorted moved ∙ count in
    let numbers : length (numbers_of sorted) ≡ length sorted =
    length-map sorted (λ (receipt : ReceiptOf). receipt.number) in (
      record {
        all = subst (λ (list : List ReceiptOf). IsPermutation list sorted) all moved;
        numbered = rise_is_range high 0 (numbers_of sorted) (omega (arith, long, numbers)) rise
            ∙ ap (λ n. range_with_len 1 n) numbers;
        rising = subst (λ (n : ℕ). All (IsRisingSeat n) seats) (sym long) rising;
      },
      long,
    )

pub count_cause : (book : Book) (seats : List SeatOf) (gathered : List ReceiptOf) (high : ℕ)
    → gathered ≡ all_receipts seats → high ≡ length (book_log book) → length gathered ≢ high
    → length (book_log book) ≢ length (all_receipts seats)
count_cause book seats gathered high all log apart same = apart (ap length all ∙ sym same ∙ sym log)

pub repeated_cause : (book : Book) (seats : List SeatOf) (gathered sorted : List ReceiptOf) (high : ℕ)
    → gathered ≡ all_receipts seats → high ≡ length (book_log book) → length gathered ≡ high
    → IsPermutation gathered sorted → IsNonDecreasingBy (λ (receipt : ReceiptOf). receipt.number) sorted
    → ¬ RiseTo high 0 (numbers_of sorted)
    → (length (book_log book) ≡ length (all_receipts seats)) × IsMissing (book_setting book) (book_log book) seats
repeated_cause book seats gathered sorted high all log count moved order falls = (
  sym log ∙ sym count ∙ ap length all,
  IsRepeated sorted (subst (λ (list : List ReceiptOf). IsPermutation list sorted) all moved) order
      (λ rise. falls (subst (λ (n : ℕ). RiseTo n 0 (numbers_of sorted)) (sym log) rise)),
)

-- ---- readings are the same in another order

right_in_order : (P : Reading → Type 0) (seats : List SeatOf) (gathered sorted : List Reading)
    → gathered ≡ all_readings seats → IsPermutation gathered sorted → All P sorted → All P (all_readings seats)
right_in_order P seats gathered sorted all moved right =
    subst (λ (list : List Reading). All P list) all
    (All-permutation P sorted gathered (IsPermutation-sym gathered sorted moved) right)

wrong_in_order : (P : Reading → Type 0) (seats : List SeatOf) (gathered sorted : List Reading)
    → gathered ≡ all_readings seats → IsPermutation gathered sorted → ¬ All P sorted → ¬ All P (all_readings seats)
wrong_in_order P seats gathered sorted all moved wrong right =
    wrong (All-permutation P gathered sorted moved (subst (λ (list : List Reading). All P list) (sym all) right))

-- ---- causes

long_count : (book : Book) (seats : List SeatOf) (order : List ReceiptOf) → AreInOrder seats order
    → IsAsLong book order → length (book_log book) ≡ length (all_receipts seats)
long_count book seats order ordered long = sym long.count ∙ length_permutation (all_receipts seats) order ordered.all

unlike_cause : (book : Book) (acquired : ℕ) (seats : List SeatOf) (served : List ServedOf) (order : List ReceiptOf)
    (error : CloseError) → AreInOrder seats order → IsAsLong book order → IsUnlikeIn book order error
    → IsCloseCause book acquired seats served error
unfolding long_count
unlike_cause book acquired seats served order f.CountDiffers ordered long unlike = absurd unlike
unlike_cause book acquired seats served order f.ReceiptMissing ordered long unlike =
    (long_count book seats order ordered long, IsNotLogged order ordered unlike)
unlike_cause book acquired seats served order f.ReadingWrong ordered long unlike = absurd unlike
unlike_cause book acquired seats served order f.TakenDiffers ordered long unlike = absurd unlike
unlike_cause book acquired seats served order f.ConnectionMissing ordered long unlike = absurd unlike
unlike_cause book acquired seats served order f.StartLate ordered long unlike = absurd unlike
unlike_cause book acquired seats served order f.SlotDiffers ordered long unlike = absurd unlike
unlike_cause book acquired seats served order f.OutOfMemory ordered long unlike = tt

module _ (book fresh : Book) (seats : List SeatOf) (order : List ReceiptOf) (ordered : AreInOrder seats order)
    (long : IsAsLong book order) (replayed : Replays book fresh order)
    (count : length (book_log fresh) ≡ length order) where
  -- in the setting of the fresh book
  record Explained (setting : Setting) : Type 0 where
    accepted : AreAccepted setting no_rows (transactions_of order)
    logged : book_log book ≡ entries_from setting no_rows 1 (transactions_of order)

  explained_by : IsExplainedBy book seats order
  explained_by =
      let all : StandsFor fresh (transactions_of order) × (book_log fresh ≡ book_log book) =
      replays_all book fresh order replayed long count in
      let there : Explained (book_setting book) =
      subst Explained (ap setting_in replayed.named)
      (record { accepted = all.0.accepted; logged = sym all.1 ∙ all.0.log }) in
      record { ordered = ordered; accepted = there.accepted; logged = there.logged }

  wrong_cause : ¬ All (IsRight (book_setting book) (transactions_of order)) (all_readings seats)
      → HasWrongReading book seats
  unfolding explained_by
  wrong_cause wrong = record { order = order; explained = explained_by; wrong = wrong }

  module _ (right : All (IsRight (book_setting book) (transactions_of order)) (all_readings seats)) (acquired : ℕ)
      (served : List ServedOf) where
    taken_cause : ¬ All (IsComplete (book_log book)) served → HasOtherTaken book seats served
    unfolding explained_by
    taken_cause short = record {
      order = order;
      explained = explained_by;
      right = right;
      other = not_taken (book_log book) served short;
    }

    module _ (closing : ClosingOf) (told : AreWitnessed (book_checked book) closing acquired seats served book)
        (complete : All (IsComplete (book_log book)) served) where
      has_starts : (so : ℕ → List ServedOf → Type 0)
          → AreOrdered (length (book_checked book).catalog.subscriptions) acquired served so
          → HasStarts book acquired seats served so
      unfolding explained_by
      has_starts so cause = record {
        order = order;
        explained = explained_by;
        right = right;
        taken = taken_all book closing acquired seats served told complete;
        starts = cause.starts;
        ordered = cause.ordered;
        are = cause.are;
      }

      start_cause : (error : CloseError)
          → IsStartCause (length (book_checked book).catalog.subscriptions) (book_slots book) acquired served error
          → IsCloseCause book acquired seats served error
      unfolding explained_by has_starts
      start_cause f.CountDiffers cause = absurd cause
      start_cause f.ReceiptMissing cause = absurd cause
      start_cause f.ReadingWrong cause = absurd cause
      start_cause f.TakenDiffers cause = absurd cause
      start_cause f.ConnectionMissing cause = record {
        order = order;
        explained = explained_by;
        right = right;
        taken = taken_all book closing acquired seats served told complete;
        missing = cause;
      }
      start_cause f.StartLate cause = has_starts (λ slots starts. ¬ AreReached slots starts) cause
      start_cause f.SlotDiffers cause =
          has_starts (λ slots starts. AreReached slots starts × ¬ AllEndReached slots (book_slots book) starts) cause
      start_cause f.OutOfMemory cause = tt

      is_closed : AreInTime (length (book_checked book).catalog.subscriptions) (book_slots book) acquired served
          → book_slots book ≡ closing.slots
          → All IsForwardSeat seats → All IsTimedSeat seats → (last : Book) → IsConfirmedAs closing.slots fresh last
          → IsClosed (book_checked book) (book_limit book) closing seats served last
      is_closed times slots_are forward timed last kept =
          let all : StandsFor fresh (transactions_of order) × (book_log fresh ≡ book_log book) =
          replays_all book fresh order replayed long count in
          let same : order ≡ closing.log =
          order_logged (book_checked book) closing.log book seats refl told.logged order ordered
          (long.count ∙ logged_long (book_checked book) closing.log book seats refl told.logged) in
          record {
            named = kept.changes.checked ∙ replayed.named;
            limited = kept.changes.limit ∙ replayed.limited;
            ordered = subst (AreInOrder seats) same ordered;
            begins = λ place other below. (told.logged.each place other below).begins;
            shown = told.shown;
            stands = slots_keep_it fresh last (book_slots last) kept.changes (transactions_of closing.log)
                (subst (λ (log : List ReceiptOf). StandsFor fresh (transactions_of log)) same all.0);
            counted = ap length kept.changes.log ∙ count ∙ ap length same;
            free = kept.uses no_use
                (none_in_use (book_slots fresh) (length (book_checked book).catalog.subscriptions) replayed.unused);
            confirmed = kept.confirmed;
            right = subst (λ (log : List ReceiptOf). All (IsRight (book_setting book) (transactions_of log))
                (all_readings seats)) same right;
            forward = forward;
            timed = timed;
            taken = subst (λ (entries : List CommitOf). All (IsTaken entries) served)
                (sym (kept.changes.log ∙ all.1))
                (taken_all book closing acquired seats served told complete);
            seen = told.seen;
            had = had_all book closing acquired seats served told;
            starts = times.starts;
            ordered_starts = subst (λ n. IsOrder n served times.starts) told.count times.ordered;
            reached = times.reached;
            resumed = all_resumed closing.events told.turns served times.starts acquired
                (length (book_checked book).catalog.subscriptions) times.ordered
                (had_all book closing acquired seats served told);
            kept = all_kept closing.events told.turns served times.starts acquired
                (length (book_checked book).catalog.subscriptions) times.ordered
                (had_all book closing acquired seats served told) closing.slots told.known
                (subst (λ (slots : List Slot). AllEndReached (length (book_checked book).catalog.subscriptions) slots
                times.starts) slots_are times.kept);
          }

-- ---- what is compared, where lists are seen as slices

module _ (book fresh : Book) (seats : List SeatOf) (receipts seen : List (Bor ReceiptOf))
    (seen_is : seen ≡ receipts)
    (ordered : AreInOrder seats (map (λ (one : Bor ReceiptOf). one.now) receipts))
    (long : IsAsLong book (map (λ (one : Bor ReceiptOf). one.now) receipts)) where
  seen_ordered : AreInOrder seats (map (λ (one : Bor ReceiptOf). one.now) seen)
  seen_ordered = subst (λ (list : List (Bor ReceiptOf)). AreInOrder seats
      (map (λ (one : Bor ReceiptOf). one.now) list)) (sym seen_is) ordered

  seen_long : IsAsLong book (map (λ (one : Bor ReceiptOf). one.now) seen)
  seen_long = subst (λ (list : List (Bor ReceiptOf)). IsAsLong book (map (λ (one : Bor ReceiptOf). one.now) list))
      (sym seen_is) long

  pub unlike_compared : (acquired : ℕ) (served : List ServedOf) (error : CloseError)
      → IsUnlikeIn book (map (λ (one : Bor ReceiptOf). one.now) seen) error
      → IsCloseCause book acquired seats served error
  unfolding seen_ordered seen_long
  unlike_compared acquired served error unlike =
      unlike_cause book acquired seats served (map (λ (one : Bor ReceiptOf). one.now) seen) error seen_ordered
      seen_long unlike

  module _ (gathered sorted looked : List (Bor Reading))
      (all : map (λ (one : Bor Reading). one.now) gathered ≡ all_readings seats)
      (moved : IsPermutation (map (λ (one : Bor Reading). one.now) gathered)
      (map (λ (one : Bor Reading). one.now) sorted)) (looked_is : looked ≡ sorted)
      (replayed : Replays book fresh (map (λ (one : Bor ReceiptOf). one.now) seen))
      (count : length (book_log fresh) ≡ length seen) where
    seen_moved : IsPermutation (map (λ (one : Bor Reading). one.now) gathered)
        (map (λ (one : Bor Reading). one.now) looked)
    seen_moved = subst (λ (list : List (Bor Reading)). IsPermutation (map (λ (one : Bor Reading). one.now) gathered)
        (map (λ (one : Bor Reading). one.now) list)) (sym looked_is) moved

    seen_count : length (book_log fresh) ≡ length (map (λ (one : Bor ReceiptOf). one.now) seen)
    seen_count = count ∙ sym (length-map seen (λ (one : Bor ReceiptOf). one.now))

    pub wrong_compared : ¬ All
        (IsRight (book_setting book) (transactions_of (map (λ (one : Bor ReceiptOf). one.now) seen)))
        (map (λ (one : Bor Reading). one.now) looked) → HasWrongReading book seats
    unfolding seen_moved seen_count seen_ordered seen_long
    wrong_compared wrong =
        wrong_cause book fresh seats (map (λ (one : Bor ReceiptOf). one.now) seen) seen_ordered seen_long replayed
        seen_count
        (wrong_in_order (IsRight (book_setting book) (transactions_of (map (λ (one : Bor ReceiptOf). one.now) seen)))
        seats (map (λ (one : Bor Reading). one.now) gathered)
        (map (λ (one : Bor Reading). one.now) looked) all seen_moved wrong)

    module _ (right : All
        (IsRight (book_setting book) (transactions_of (map (λ (one : Bor ReceiptOf). one.now) seen)))
        (map (λ (one : Bor Reading). one.now) looked)) (acquired : ℕ) (served : List ServedOf) where
      seen_right : All (IsRight (book_setting book) (transactions_of (map (λ (one : Bor ReceiptOf). one.now) seen)))
          (all_readings seats)
      unfolding seen_moved
      seen_right = right_in_order
          (IsRight (book_setting book) (transactions_of (map (λ (one : Bor ReceiptOf). one.now) seen))) seats
          (map (λ (one : Bor Reading). one.now) gathered)
          (map (λ (one : Bor Reading). one.now) looked) all seen_moved right

      pub taken_compared : ¬ All (IsComplete (book_log book)) served → HasOtherTaken book seats served
      unfolding seen_count seen_ordered seen_long seen_right
      taken_compared short =
          taken_cause book fresh seats (map (λ (one : Bor ReceiptOf). one.now) seen) seen_ordered seen_long replayed
          seen_count seen_right acquired served short

      module _ (slots : ℕ) (slots_are : slots ≡ length (book_checked book).catalog.subscriptions)
          (complete : All (IsComplete (book_log book)) served) (closing : ClosingOf)
          (told : AreWitnessed (book_checked book) closing acquired seats served book) where
        pub start_compared : {A : Type 0} (result : Result A CloseError)
            → IfErr result (IsStartCause slots (book_slots book) acquired served)
            → IfErr result (IsCloseCause book acquired seats served)
        unfolding seen_count seen_ordered seen_long seen_right
        start_compared (Ok done) cause = tt
        start_compared (Err error) cause =
            start_cause book fresh seats (map (λ (one : Bor ReceiptOf). one.now) seen) seen_ordered seen_long replayed
            seen_count seen_right acquired served closing told complete error
            (subst (λ n. IsStartCause n (book_slots book) acquired served error) slots_are cause)

        pub closed_compared : {A : Type 0} (result : Result A CloseError)
            → OnOk result (AreInTime slots (book_slots book) acquired served) → book_slots book ≡ closing.slots
            → All IsForwardSeat seats → All IsTimedSeat seats
            → OnOk result ((last : Book) → IsConfirmedAs closing.slots fresh last
            → IsClosed (book_checked book) (book_limit book) closing seats served last)
        unfolding seen_count seen_ordered seen_long seen_right
        closed_compared (Ok done) times confirmed forward timed =
            is_closed book fresh seats (map (λ (one : Bor ReceiptOf). one.now) seen) seen_ordered seen_long replayed
            seen_count seen_right acquired served closing told complete
            (subst (λ n. AreInTime n (book_slots book) acquired served) slots_are times) confirmed forward timed
        closed_compared (Err error) times confirmed forward timed = tt

-- ---- the closed book

pub closed_as_named : (checked : CheckedOf) (limit : ℕ) (closing : ClosingOf) (book last : Book)
    (seats seen : List SeatOf) (served told : List ServedOf) → book_checked book ≡ checked → book_limit book ≡ limit
    → seen ≡ seats → told ≡ served → IsClosed (book_checked book) (book_limit book) closing seen told last
    → IsClosed checked limit closing seats served last
closed_as_named checked limit closing book last seats seen served told named limited same alike closed =
    subst (λ (list : List SeatOf). IsClosed checked limit closing list served last) same
    (subst (λ (list : List ServedOf). IsClosed checked limit closing seen list last) alike
    (subst (λ (n : ℕ). IsClosed checked n closing seen told last) limited
    (subst (λ (one : CheckedOf). IsClosed one (book_limit book) closing seen told last) named closed)))

-- ---- refusals

-- as many receipts as the seats of a ledger count
receipts_counted : (notes : List Note) → length (receipts_in notes) ≡ receipts notes
receipts_counted [] = refl
receipts_counted (Committed receipt ∷ notes) = let rest = receipts_counted notes in omega (arith, rest)
receipts_counted (Looked reading ∷ notes) = receipts_counted notes

all_counted : (seats : List SeatOf) → length (all_receipts seats) ≡ total_receipts seats
all_counted [] = refl
all_counted (seat ∷ seats) =
    let rest = all_counted seats in let one = receipts_counted seat.notes in
    let both = length-append (receipts_in seat.notes) (all_receipts seats) in omega (arith, rest, one, both)

module _ (checked : CheckedOf) (limit all left : ℕ) (closing : ClosingOf) (seats : List SeatOf)
    (served : List ServedOf) (book : Book) (named : book_checked book ≡ checked) (limited : book_limit book ≡ limit)
    (stands : StandsFor book (transactions_of closing.log))
    (counted : IsCounted all left seats (length closing.log))
    (in_log : AreSeatsIn (setting_in checked) closing.log seats)
    (shown : All (λ (seat : SeatOf). BeginsWith closing.events seat.events) seats)
    (seen : All (λ (one : ServedOf). IsSeenIn closing one.viewer) served) where
  log_is : book_log book ≡ log_seen checked closing.log
  log_is = stands.log
      ∙ ap (λ (one : CheckedOf). entries_from (setting_in one) no_rows 1 (transactions_of closing.log)) named

  long : length (book_log book) ≡ length closing.log
  long = each_is_logged book (transactions_of closing.log) stands ∙ length_transactions closing.log

  held_back : length (book_log book) ≢ length (all_receipts seats) → left + length seats < all
  unfolding long
  held_back apart = by_test (ltb (left + length seats) all)
      (λ less. ltb-true (left + length seats) all less)
      (λ full. let least = ltb-false (left + length seats) all full in let few = counted.few in
      absurd (apart (long ∙ sym (counted.whole (omega (arith, least, few))) ∙ sym (all_counted seats))))

  refused : (error : CloseError) → IsReasonToRefuse checked all left closing seats served error
      → RefusedClose checked limit all left closing seats served error
  unfolding long
  refused error why = record {
    accepted = subst (λ (one : CheckedOf). AreAccepted (setting_in one) no_rows (transactions_of closing.log)) named
        stands.accepted;
    room =
        let items = length-map book.log.items commit_in in
        omega (arith, long, limited, items, book.room);
    counted = counted;
    logged = in_log;
    shown = shown;
    seen = seen;
    reason = why;
  }

  module _ (acquired : ℕ) (acquired_is : acquired ≡ acquisitions closing.events)
      (slots_are : book_slots book ≡ closing.slots) where
    starts_are : (so : ℕ → List ServedOf → Type 0) → HasStarts book acquired seats served so
        → StartsAre checked closing seats served so
    unfolding long log_is
    starts_are so cause = record {
      before = record {
        count = sym long ∙ explained_count book seats cause.order cause.explained;
        taken = subst (λ (log : List CommitOf). All (IsTaken log) served) log_is cause.taken;
      };
      starts = cause.starts;
      ordered = subst (λ (n : ℕ). IsOrder n served cause.starts) acquired_is cause.ordered;
      are = subst (λ (one : CheckedOf). so (length one.catalog.subscriptions) cause.starts) named cause.are;
    }

    -- the reasons that the comparisons found, of which two cannot come
    reason : (error : CloseError) → IsCloseCause book acquired seats served error → CanCome error
        → IsReasonToRefuse checked all left closing seats served error
    unfolding long log_is held_back starts_are
    reason f.CountDiffers cause can = ((λ same. cause (long ∙ same)), held_back cause)
    reason f.ReceiptMissing cause can = can
    reason f.ReadingWrong cause can = can
    reason f.TakenDiffers cause can = (
      sym long ∙ explained_count book seats cause.order cause.explained,
      subst (λ (log : List CommitOf). ¬ All (IsTaken log) served) log_is cause.other,
    )
    reason f.ConnectionMissing cause can = (
      record {
        count = sym long ∙ explained_count book seats cause.order cause.explained;
        taken = subst (λ (log : List CommitOf). All (IsTaken log) served) log_is cause.taken;
      },
      subst (λ (n : ℕ). LacksConnection n served) acquired_is cause.missing,
    )
    reason f.StartLate cause can = starts_are (λ slots starts. ¬ AreReached slots starts) cause
    reason f.SlotDiffers cause can =
        starts_are (λ slots starts. AreReached slots starts × ¬ AllEndReached slots closing.slots starts)
        (subst (λ (list : List Slot). HasStarts book acquired seats served (λ slots starts. AreReached slots starts
        × ¬ AllEndReached slots list starts)) slots_are cause)
    reason f.OutOfMemory cause can = tt

    pub refused_as_named : (gathered : List SeatOf) (shown : List ServedOf) (error : CloseError) → gathered ≡ seats
        → shown ≡ served → IsCloseCause book acquired gathered shown error
        → RefusedClose checked limit all left closing seats served error
    unfolding refused reason
    refused_as_named gathered shown error same alike cause =
        let its : IsCloseCause book acquired seats served error =
        subst (λ (list : List SeatOf). IsCloseCause book acquired list served error) same
        (subst (λ (list : List ServedOf). IsCloseCause book acquired gathered list error) alike cause) in
        let logged : IsLogOfSeats checked closing.log seats book =
        record { stands = stands; each = in_log.each; once = in_log.once } in
        refused error
        (reason error its (can_come checked closing.log book seats named logged acquired served error its))

  pub memory_refused : {A : Type 0} (result : Result A CloseError)
      → IsErrAnd result (λ error. error ≡ f.OutOfMemory)
      → IfErr result (RefusedClose checked limit all left closing seats served)
  unfolding refused
  memory_refused (Ok done) memory = tt
  memory_refused (Err error) memory =
      subst (λ (other : CloseError). RefusedClose checked limit all left closing seats served other) (sym memory)
      (refused f.OutOfMemory tt)

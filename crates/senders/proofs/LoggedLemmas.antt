-- What the history of a publisher rules out: a receipt that is missing, and a reading that is wrong.
use Rattle.std.proofs.Common.{◌≡◌, ℕ, zero, suc, ◌+◌, ◌<◌, ◌≤◌, List, [], ◌∷◌, ◌++◌, length, take, get_or, refl, sym, ◌∙◌, ap, subst, arith, ltb, length-append, append_assoc, cond, eqb, eq-eqb}
use Rattle.std.specs.Prelude.{All, Some, fold, slice_get}
use Rattle.std.specs.List.{range_with_len, sum_by}
use Rattle.std.specs.List.Sorted.{IsPermutation, IsNonDecreasingBy}
use Rattle.std.proofs.Math.Seq.{take-append_seam}
use Rattle.std.proofs.lemmas.Bool.{ltb-true, ltb-false}
use Rattle.std.proofs.lemmas.List.Elements.{All-nil}
use Rattle.std.proofs.lemmas.List.Sorted.{All-permutation, length_permutation, sum_by-IsPermutation}
use Rattle.std.proofs.lemmas.List.Sums.{sum_by-cons}
use Rattle.filter_tree.proofs.Tests.{by_test}
use Rattle.shard_checker.specs.CheckedView.{CheckedOf, setting_in}
use Rattle.table_changes.specs.Records.{record_of}
use Rattle.table_changes.specs.Setting.{Setting}
use Rattle.table_changes.specs.Tables.{Tables, no_rows}
use Rattle.table_changes.proofs.TableLemmas.{some_is}
use Rattle.tables_log.specs.BookView.{book_checked, book_log, book_setting}
use Rattle.tables_log.specs.Commits.{CommitOf, commit_of}
use Rattle.tables_log.specs.StandsFor.{Transaction, IsAccepted, AreAccepted, StandsFor, after, entries_from, left_by}
use Rattle.tables_log.specs.declared.book.Book.{Book}
use Rattle.tables_log.proofs.StandLemmas.{each_is_logged}
use Rattle.publisher_desk.specs.Logged.{AreNoted, AreSeatsIn, IsReadIn, IsSeatIn, RiseTo, StandsIn, drawn_by, own_numbers}
use Rattle.publisher_desk.specs.Receipts.{ReceiptOf, transaction_of, transactions_of}
use Rattle.publisher_desk.specs.Seats.{SeatOf}
use Rattle.publisher_desk.specs.Sights.{times}
use Rattle.publisher_desk.specs.SlotEvents.{AreConfirmed, AreInTurn, acquisitions, confirmed_after, no_position, no_use}
use Rattle.publisher_desk.specs.SlotSights.{BeginsWith}
use Rattle.publisher_desk.specs.Viewers.{ClosingOf, IsSeenIn}
use Rattle.publisher_desk.specs.declared.note.Note.{Note}
use Rattle.publisher_desk.specs.declared.note.Note.TheVariants.{Committed, Looked}
use Rattle.publisher_desk.specs.declared.note.Reading.{Reading}
use Rattle.publisher_desk.proofs.KeptLemmas.{times_append}
use Rattle.publisher_desk.proofs.LoggedLemmas.{length_transactions, transactions_append}
use Rattle.senders.specs.CloseCauses.{IsUnlike, IsRefusedThere, IsOtherThere, IsMissing, IsFalling, IsRepeated, IsNotLogged, HasWrongReading, IsExplainedBy, IsCloseCause, CanCome}
use Rattle.senders.specs.Gathering.{receipts_in, readings_in, all_receipts, all_readings, numbers_of, IsRisingSeat}
use Rattle.senders.specs.Histories.{AreInOrder, AreWitnessed, IsLogOfSeats, IsRight}
use Rattle.senders.specs.Results.{IsWitnessed, ServedOf}
use Rattle.senders.specs.declared.close_error.CloseError.{CloseError}
use Rattle.senders.specs.declared.close_error.CloseError.TheVariants as f

-- ---- lists

module _ {X : Type 0} (P : X → Type 0) where
  all_first : (x : X) (xs : List X) → P x → All P xs → All P (x ∷ xs)
  all_first x xs first rest zero other low = first
  all_first x xs first rest (suc place) other low = rest place other (omega (arith, low))

  all_rest : (x : X) (xs : List X) → All P (x ∷ xs) → All P xs
  all_rest x xs all place other low = all (suc place) other (omega (arith, low))

  all_append : (xs ys : List X) → All P xs → All P ys → All P (xs ++ ys)
  all_append [] ys these those = those
  all_append (x ∷ xs) ys these those =
      all_first x (xs ++ ys) (these 0 x (omega arith)) (all_append xs ys (all_rest x xs these) those)

-- ---- numbers

numbers_are : (notes : List Note) → own_numbers notes ≡ numbers_of (receipts_in notes)
numbers_are [] = refl
numbers_are (Committed receipt ∷ notes) = ap (λ (list : List ℕ). receipt.number ∷ list) (numbers_are notes)
numbers_are (Looked reading ∷ notes) = numbers_are notes

numbers_append : (receipts more : List ReceiptOf)
    → numbers_of (receipts ++ more) ≡ numbers_of receipts ++ numbers_of more
numbers_append [] more = refl
numbers_append (receipt ∷ receipts) more =
    ap (λ (list : List ℕ). receipt.number ∷ list) (numbers_append receipts more)

abbrev same_once : ℕ → ℕ → ℕ
same_once number n = cond (eqb number n) 1 0

only_one : (number n : ℕ) → number ≡ n → same_once number n ≡ 1
only_one number n same = ap (λ b. cond b 1 0) (eq-eqb number n same)

abbrev only : ℕ → ReceiptOf → ℕ
only n receipt = same_once receipt.number n

times_sum : (n : ℕ) (receipts : List ReceiptOf) → times n (numbers_of receipts) ≡ sum_by (only n) receipts
times_sum n [] = refl
times_sum n (receipt ∷ receipts) =
    let rest = times_sum n receipts in let sum = sum_by-cons (only n) receipt receipts in omega (arith, rest, sum)

times_sorted : (n : ℕ) (gathered sorted : List ReceiptOf) → IsPermutation gathered sorted
    → times n (numbers_of sorted) ≡ times n (numbers_of gathered)
times_sorted n gathered sorted moved =
    times_sum n sorted ∙ sum_by-IsPermutation (only n) gathered sorted moved ∙ sym (times_sum n gathered)

drawn_all : (n : ℕ) (seats : List SeatOf) → drawn_by n seats ≡ times n (numbers_of (all_receipts seats))
drawn_all n [] = refl
drawn_all n (seat ∷ seats) =
    let mine = ap (times n) (numbers_are seat.notes) in let rest = drawn_all n seats in
    let both = ap (times n) (numbers_append (receipts_in seat.notes) (all_receipts seats)) in
    let sum = times_append n (numbers_of (receipts_in seat.notes)) (numbers_of (all_receipts seats)) in
    omega (arith, mine, rest, both, sum)

times_at : (n : ℕ) (receipts : List ReceiptOf) (place : ℕ) (other : ReceiptOf) → place < length receipts
    → (get_or receipts place other).number ≡ n → 1 ≤ times n (numbers_of receipts)
times_at n [] place other low same = absurd (omega arith)
times_at n (receipt ∷ receipts) zero other low same =
    let one = only_one receipt.number n same in omega (arith, one)
times_at n (receipt ∷ receipts) (suc place) other low same =
    let rest = times_at n receipts place other (omega (arith, low)) same in omega (arith, rest)

sorted_rise : (high low : ℕ) (sorted : List ReceiptOf)
    → IsNonDecreasingBy (λ (receipt : ReceiptOf). receipt.number) sorted
    → ((n : ℕ) → times n (numbers_of sorted) ≤ 1)
    → All (λ (receipt : ReceiptOf). (low < receipt.number) × (receipt.number ≤ high)) sorted
    → RiseTo high low (numbers_of sorted)
sorted_rise high low [] sorted once within = tt
sorted_rise high low (receipt ∷ receipts) sorted once within = (
  (within 0 receipt (omega arith)).0,
  (within 0 receipt (omega arith)).1,
  sorted_rise high receipt.number receipts
      (λ i j other order below. sorted (suc i) (suc j) other (omega (arith, order)) (omega (arith, below)))
      (λ n. let all = once n in omega (arith, all))
      (λ place other below.
      let next : ReceiptOf = get_or receipts place other in
      let least : receipt.number ≤ next.number = sorted 0 (suc place) other (omega arith) (omega (arith, below)) in (
        by_test (ltb receipt.number next.number)
            (λ less. ltb-true receipt.number next.number less)
            (λ no. let most = ltb-false receipt.number next.number no in
            let again = times_at receipt.number receipts place other below (omega (arith, least, most)) in
            let mine = only_one receipt.number receipt.number refl in
            let all = once receipt.number in absurd (omega (arith, again, mine, all))),
        (within (suc place) other (omega (arith, below))).1,
      )),
)

-- ---- receipts and readings

stands_within : (log : List ReceiptOf) (receipt : ReceiptOf) → StandsIn log receipt
    → (0 < receipt.number) × (receipt.number ≤ length log)
stands_within log receipt stands =
    let all = ap length stands.log_is in let both = length-append stands.earlier (receipt ∷ stands.later) in
    let number = stands.number_is in (omega (arith, number), omega (arith, all, both, number))

receipts_stand : (setting : Setting) (log : List ReceiptOf) (notes : List Note) → AreNoted setting log notes
    → All (StandsIn log) (receipts_in notes)
receipts_stand setting log [] noted = All-nil (StandsIn log)
receipts_stand setting log (Committed receipt ∷ notes) noted =
    all_first (StandsIn log) receipt (receipts_in notes) (noted 0 (Committed receipt) (omega arith))
    (receipts_stand setting log notes (λ place other low. noted (suc place) other (omega (arith, low))))
receipts_stand setting log (Looked reading ∷ notes) noted =
    receipts_stand setting log notes (λ place other low. noted (suc place) other (omega (arith, low)))

readings_stand : (setting : Setting) (log : List ReceiptOf) (notes : List Note) → AreNoted setting log notes
    → All (IsReadIn setting log) (readings_in notes)
readings_stand setting log [] noted = All-nil (IsReadIn setting log)
readings_stand setting log (Committed receipt ∷ notes) noted =
    readings_stand setting log notes (λ place other low. noted (suc place) other (omega (arith, low)))
readings_stand setting log (Looked reading ∷ notes) noted =
    all_first (IsReadIn setting log) reading (readings_in notes) (noted 0 (Looked reading) (omega arith))
    (readings_stand setting log notes (λ place other low. noted (suc place) other (omega (arith, low))))

all_stand : (setting : Setting) (log : List ReceiptOf) (seats : List SeatOf) → All (IsSeatIn setting log) seats
    → All (StandsIn log) (all_receipts seats)
all_stand setting log [] each = All-nil (StandsIn log)
all_stand setting log (seat ∷ seats) each =
    all_append (StandsIn log) (receipts_in seat.notes) (all_receipts seats)
    (receipts_stand setting log seat.notes (each 0 seat (omega arith)).noted)
    (all_stand setting log seats (all_rest (IsSeatIn setting log) seat seats each))

all_read : (setting : Setting) (log : List ReceiptOf) (seats : List SeatOf) → All (IsSeatIn setting log) seats
    → All (IsReadIn setting log) (all_readings seats)
all_read setting log [] each = All-nil (IsReadIn setting log)
all_read setting log (seat ∷ seats) each =
    all_append (IsReadIn setting log) (readings_in seat.notes) (all_readings seats)
    (readings_stand setting log seat.notes (each 0 seat (omega arith)).noted)
    (all_read setting log seats (all_rest (IsSeatIn setting log) seat seats each))

-- ---- the order of all receipts is the log

same_place : (before earlier rest later : List ReceiptOf) (x receipt : ReceiptOf) → length before ≡ length earlier
    → before ++ x ∷ rest ≡ earlier ++ receipt ∷ later → receipt ≡ x
same_place [] [] rest later x receipt long same =
    some_is receipt x (ap (λ (list : List ReceiptOf). slice_get list 0) (sym same))
same_place [] (one ∷ earlier) rest later x receipt long same = absurd (omega (arith, long))
same_place (one ∷ before) [] rest later x receipt long same = absurd (omega (arith, long))
same_place (one ∷ before) (other ∷ earlier) rest later x receipt long same =
    same_place before earlier rest later x receipt (omega (arith, long))
    (ap (λ (list : List ReceiptOf). drop_one list) same)
  where
    drop_one : List ReceiptOf → List ReceiptOf
    drop_one [] = []
    drop_one (y ∷ ys) = ys

order_is : (before order rest : List ReceiptOf) → length order ≡ length rest
    → numbers_of order ≡ range_with_len (length before + 1) (length order) → All (StandsIn (before ++ rest)) order
    → order ≡ rest
order_is before [] [] long numbered stand = refl
order_is before [] (x ∷ rest) long numbered stand = absurd (omega (arith, long))
order_is before (receipt ∷ order) [] long numbered stand = absurd (omega (arith, long))
order_is before (receipt ∷ order) (x ∷ rest) long numbered stand =
    let stands : StandsIn (before ++ x ∷ rest) receipt = stand 0 receipt (omega arith) in
    let first : receipt.number ≡ length before + 1 =
    some_is receipt.number (length before + 1) (ap (λ (list : List ℕ). slice_get list 0) numbered) in
    let place = stands.number_is in
    let same : receipt ≡ x =
    same_place before stands.earlier rest stands.later x receipt (omega (arith, first, place)) stands.log_is in
    let longer : length (before ++ x ∷ []) ≡ length before + 1 = length-append before (x ∷ []) in
    let more : numbers_of order ≡ range_with_len (length (before ++ x ∷ []) + 1) (length order) =
    ap (λ (list : List ℕ). tail_of list) numbered ∙ ap (λ n. range_with_len (n + 1) (length order)) (sym longer) in
    let whole : before ++ x ∷ rest ≡ (before ++ x ∷ []) ++ rest = sym (append_assoc before (x ∷ []) rest) in
    let left : order ≡ rest =
    order_is (before ++ x ∷ []) order rest (omega (arith, long)) more
    (subst (λ (log : List ReceiptOf). All (StandsIn log) order) whole
    (all_rest (StandsIn (before ++ x ∷ rest)) receipt order stand)) in
    λ i. same i ∷ left i
  where
    tail_of : List ℕ → List ℕ
    tail_of [] = []
    tail_of (y ∷ ys) = ys

-- ---- what is recorded

accepted_at : (setting : Setting) (tables : Tables) (order : List ReceiptOf) (place : ℕ) (receipt : ReceiptOf)
    → AreAccepted setting tables (transactions_of order) → slice_get order place ≡ Some receipt
    → IsAccepted setting (fold (left_by setting) tables (transactions_of (take place order))) (transaction_of receipt)
accepted_at setting tables [] place receipt accepted at = absurd cc
accepted_at setting tables (first ∷ order) zero receipt accepted at =
    subst (λ (one : ReceiptOf). IsAccepted setting tables (transaction_of one)) (some_is first receipt at) accepted.0
accepted_at setting tables (first ∷ order) (suc place) receipt accepted at =
    accepted_at setting (left_by setting tables (transaction_of first)) order place receipt accepted.1 at

entry_is : (setting : Setting) (tables : Tables) (number : ℕ) (order : List ReceiptOf) (place : ℕ) (receipt : ReceiptOf)
    → slice_get order place ≡ Some receipt
    → slice_get (entries_from setting tables number (transactions_of order)) place ≡ Some (commit_of (number + place)
    receipt.time (record_of setting (fold (left_by setting) tables (transactions_of (take place order)))
    receipt.commands))
entry_is setting tables number [] place receipt at = absurd cc
entry_is setting tables number (first ∷ order) zero receipt at =
    let here : number ≡ number + 0 = omega arith in
    ap (λ n. Some (commit_of n first.time (record_of setting tables first.commands))) here
    ∙ ap (λ (one : ReceiptOf). Some (commit_of (number + 0) one.time (record_of setting tables one.commands)))
    (some_is first receipt at)
entry_is setting tables number (first ∷ order) (suc place) receipt at =
    let next : number + 1 + place ≡ number + suc place = omega arith in
    entry_is setting (left_by setting tables (transaction_of first)) (number + 1) order place receipt at
    ∙ ap (λ n. Some (commit_of n receipt.time (record_of setting (fold (left_by setting)
    (left_by setting tables (transaction_of first)) (transactions_of (take place order))) receipt.commands))) next

-- as many entries as receipts
each_entry : (setting : Setting) (tables : Tables) (number : ℕ) (order : List ReceiptOf)
    → length (entries_from setting tables number (transactions_of order)) ≡ length order
each_entry setting tables number [] = refl
each_entry setting tables number (receipt ∷ order) =
    ap suc (each_entry setting (left_by setting tables (transaction_of receipt)) (number + 1) order)

pub explained_count : (book : Book) (seats : List SeatOf) (order : List ReceiptOf) → IsExplainedBy book seats order
    → length (book_log book) ≡ length (all_receipts seats)
explained_count book seats order explained =
    ap length explained.logged ∙ each_entry (book_setting book) no_rows 1 order
    ∙ length_permutation (all_receipts seats) order explained.ordered.all

-- ---- no cause

module _ (checked : CheckedOf) (log : List ReceiptOf) (book : Book) (seats : List SeatOf)
    (named : book_checked book ≡ checked) (logged : IsLogOfSeats checked log seats book) where
  pub long : length (book_log book) ≡ length log
  long = each_is_logged book (transactions_of log) logged.stands ∙ length_transactions log

  standing : All (StandsIn log) (all_receipts seats)
  standing = all_stand (setting_in checked) log seats logged.each

  pub order_logged : (order : List ReceiptOf) → AreInOrder seats order → length order ≡ length log
      → order ≡ log
  unfolding standing
  order_logged order ordered count =
      order_is [] order log count ordered.numbered
      (All-permutation (StandsIn log) (all_receipts seats) order ordered.all standing)

  rising : All (IsRisingSeat (length (book_log book))) seats
  unfolding long
  rising place other low =
      let seat : SeatOf = get_or seats place other in
      subst (λ (n : ℕ). IsRisingSeat n seat) (sym long)
      (subst (λ (list : List ℕ). RiseTo (length log) 0 list) (numbers_are seat.notes)
      (logged.each place other low).rising)

  apart : (sorted : List ReceiptOf) → IsPermutation (all_receipts seats) sorted
      → IsNonDecreasingBy (λ (receipt : ReceiptOf). receipt.number) sorted
      → RiseTo (length (book_log book)) 0 (numbers_of sorted)
  unfolding long standing
  apart sorted moved order =
      subst (λ (n : ℕ). RiseTo n 0 (numbers_of sorted)) (sym long)
      (sorted_rise (length log) 0 sorted order
      (λ n. let once = logged.once n in let all = drawn_all n seats in
      let same = times_sorted n (all_receipts seats) sorted moved in omega (arith, once, all, same))
      (λ place other low. stands_within log (get_or sorted place other)
      (All-permutation (StandsIn log) (all_receipts seats) sorted moved standing place other low)))

  module _ (order : List ReceiptOf) (same : order ≡ log) where
    accepted : AreAccepted (book_setting book) no_rows (transactions_of order)
    accepted = subst (λ (list : List ReceiptOf). AreAccepted (book_setting book) no_rows (transactions_of list))
        (sym same) logged.stands.accepted

    entries : book_log book ≡ entries_from (book_setting book) no_rows 1 (transactions_of order)
    entries = logged.stands.log
        ∙ ap (λ (list : List ReceiptOf). entries_from (book_setting book) no_rows 1 (transactions_of list)) (sym same)

    not_unlike : IsUnlike (book_setting book) (book_log book) order → ⊥
    unfolding accepted entries
    not_unlike (IsRefusedThere there) =
        there.refused (accepted_at (book_setting book) no_rows order there.place there.receipt accepted there.at)
    not_unlike (IsOtherThere there) =
        let next : 1 + there.place ≡ there.place + 1 = omega arith in
        there.other (ap (λ (log : List CommitOf). slice_get log there.place) entries
        ∙ entry_is (book_setting book) no_rows 1 order there.place there.receipt there.at
        ∙ ap (λ n. Some (commit_of n there.receipt.time (record_of (book_setting book)
        (after (book_setting book) (transactions_of (take there.place order))) there.receipt.commands))) next)

    right : All (IsRight (book_setting book) (transactions_of order)) (all_readings seats)
    right place other low =
        let reading : Reading = get_or (all_readings seats) place other in
        let read : IsReadIn (setting_in checked) log reading =
        all_read (setting_in checked) log seats logged.each place other low in
        let told : transactions_of log ≡ transactions_of read.earlier ++ transactions_of read.later =
        ap transactions_of read.log_is ∙ transactions_append read.earlier read.later in
        let count : length (transactions_of read.earlier) ≡ reading.number =
        length_transactions read.earlier ∙ sym read.number_is in
        let begins : transactions_of read.earlier ≡ take reading.number (transactions_of log) =
        sym (take-append_seam (transactions_of read.earlier) (transactions_of read.later))
        ∙ ap (λ n. take n (transactions_of read.earlier ++ transactions_of read.later)) count
        ∙ ap (take reading.number) (sym told) in
        let all = ap length read.log_is in let both = length-append read.earlier read.later in
        let number = read.number_is in let whole = length_transactions log in
        subst (λ (list : List ReceiptOf). IsRight (book_setting book) (transactions_of list) reading) (sym same)
        (subst (λ (one : CheckedOf). IsRight (setting_in one) (transactions_of log) reading) (sym named)
        (record {
          within = omega (arith, all, both, number, whole);
          answer_is = read.answer_is
              ∙ ap (λ (list : List Transaction). after (setting_in checked) list reading.table 0 reading.key) begins;
        }))

  not_missing : length (book_log book) ≡ length (all_receipts seats)
      → IsMissing (book_setting book) (book_log book) seats → ⊥
  unfolding long rising apart order_logged not_unlike
  not_missing count (IsFalling falls) = falls rising
  not_missing count (IsRepeated sorted moved order falls) = falls (apart sorted moved order)
  not_missing count (IsNotLogged order ordered unlike) =
      let size = length_permutation (all_receipts seats) order ordered.all in
      not_unlike order (order_logged order ordered (omega (arith, size, count, long))) unlike

  not_wrong : HasWrongReading book seats → ⊥
  unfolding long order_logged right
  not_wrong wrong =
      let size : length (book_log book) ≡ length wrong.order =
      ap length wrong.explained.logged ∙ each_entry (book_setting book) no_rows 1 wrong.order in
      wrong.wrong (right wrong.order (order_logged wrong.order wrong.explained.ordered (omega (arith, size, long))))

  pub can_come : (acquired : ℕ) (served : List ServedOf) (error : CloseError)
      → IsCloseCause book acquired seats served error → CanCome error
  unfolding not_missing not_wrong
  can_come acquired served f.CountDiffers cause = tt
  can_come acquired served f.ReceiptMissing cause = not_missing cause.0 cause.1
  can_come acquired served f.ReadingWrong cause = not_wrong cause
  can_come acquired served f.TakenDiffers cause = tt
  can_come acquired served f.ConnectionMissing cause = tt
  can_come acquired served f.StartLate cause = tt
  can_come acquired served f.SlotDiffers cause = tt
  can_come acquired served f.OutOfMemory cause = tt

-- ---- what the publisher says of its seats and connections

pub witnessed_as_named : (checked : CheckedOf) (closing : ClosingOf) (acquired : ℕ) (seats seen : List SeatOf)
    (served told : List ServedOf) (book : Book) → book_checked book ≡ checked
    → StandsFor book (transactions_of closing.log) → acquired ≡ acquisitions closing.events → seen ≡ seats
    → told ≡ served → AreSeatsIn (setting_in checked) closing.log seats
    → All (λ (seat : SeatOf). BeginsWith closing.events seat.events) seats → All (IsWitnessed checked) served
    → All (λ (one : ServedOf). IsSeenIn closing one.viewer) served → AreInTurn no_use no_position closing.events
    → AreConfirmed (confirmed_after closing.events) closing.slots
    → AreWitnessed (book_checked book) closing acquired seen told book
witnessed_as_named checked closing acquired seats seen served told book named stands count same alike seats_in begin
    witnessed seen_all turns known =
    subst (λ (one : CheckedOf). AreWitnessed one closing acquired seen told book) (sym named)
    (subst (λ (list : List SeatOf). AreWitnessed checked closing acquired list told book) (sym same)
    (subst (λ (list : List ServedOf). AreWitnessed checked closing acquired seats list book) (sym alike) (record {
      logged = record { stands = stands; each = seats_in.each; once = seats_in.once };
      shown = begin;
      witnessed = witnessed;
      seen = seen_all;
      count = count;
      turns = turns;
      known = known;
    })))

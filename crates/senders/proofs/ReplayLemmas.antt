-- Receipts that are made again, one after another.
use Rattle.std.proofs.Common.{◌≡◌, ◌≢◌, ℕ, zero, suc, ◌+◌, ◌-◌, ◌<◌, ◌≤◌, List, [], ◌∷◌, ◌++◌, length, map, take, get_or, Bor, take_all, refl, sym, ◌∙◌, ap, subst, arith, length-append}
use Rattle.std.specs.Prelude.{Some, None, Result, Err, IfErr, slice_get, All, Bool, true, false, MatchBool, option_map, ◌==◌, if◌then◌else◌}
use Rattle.std.specs.List.Sorted.{IsNonDecreasingBy}
use Rattle.std.proofs.lemmas.List.{map-append, take_more, take-map, get_or-map, get_or-take, length-take, length-map}
use Rattle.std.proofs.lemmas.List.Elements.{All-more}
use Rattle.std.proofs.lemmas.Option.{slice_get_within, get_or_from_slice_get, slice_get-get_or, slice_get-map}
use Rattle.shard_checker.specs.CheckedView.{setting_in}
use Rattle.table_changes.specs.Commands.{Command}
use Rattle.table_changes.specs.CommandLists.{AreAlike}
use Rattle.table_changes.specs.Records.{record_of}
use Rattle.table_changes.specs.Setting.{Setting}
use Rattle.table_changes.specs.Tables.{SameTables, no_rows}
use Rattle.table_changes.proofs.CommandListLemmas.{are_alike}
use Rattle.tables_log.specs.BookView.{book_limit, book_log, book_rows, book_setting}
use Rattle.tables_log.specs.Commits.{CommitOf, commit_of}
use Rattle.tables_log.specs.Committing.{Commits, RefusedBy}
use Rattle.tables_log.specs.Logs.{entry_at}
use Rattle.tables_log.specs.StandsFor.{Transaction, StandsFor, IsAccepted, AreAccepted, after}
use Rattle.tables_log.specs.declared.book.Book.{Book}
use Rattle.tables_log.specs.declared.error.CommitError.{CommitError}
use Rattle.tables_log.specs.declared.error.CommitError.TheVariants as e
use Rattle.tables_log.proofs.PlaceLemmas.{get_last, number_is}
use Rattle.tables_log.proofs.StandLemmas.{commits_add_one}
use Rattle.publisher_desk.specs.Receipts.{ReceiptOf, transaction_of, transactions_of}
use Rattle.publisher_desk.specs.declared.note.Reading.{Reading}
use Rattle.senders.specs.CloseCauses.{IsUnlike, IsRefusedThere, IsOtherThere}
use Rattle.senders.specs.Histories.{IsRight}
use Rattle.senders.specs.Replays.{IsAgain, IsNotAgain, IsRefusedNow, IsOtherNow, IsMissingFor, Replays, IsAsLong, IsUnlikeIn}
use Rattle.senders.specs.declared.close_error.CloseError.{CloseError}
use Rattle.senders.specs.declared.close_error.CloseError.TheVariants as f
use Rattle.filter_tree.proofs.Tests.{by_test}

-- ---- lists

pub take_one_more : {X : Type 0} (xs : List X) (place : ℕ) (x : X) → slice_get xs place ≡ Some x
    → take (place + 1) xs ≡ take place xs ++ x ∷ []
take_one_more xs place x at =
    take_more xs place x (slice_get_within xs place x at)
    ∙ ap (λ y. take place xs ++ y ∷ []) (get_or_from_slice_get xs place x x at)

pub get_here : {X : Type 0} (xs : List X) (place : ℕ) (x : X) → place < length xs → x ≡ get_or xs place x
    → slice_get xs place ≡ Some x
get_here [] place x low is = absurd (omega arith)
get_here (y ∷ ys) zero x low is = ap Some (sym is)
get_here (y ∷ ys) (suc place) x low is = get_here ys place x (omega arith) is

transactions_more : (order : List ReceiptOf) (place : ℕ) (receipt : ReceiptOf) → slice_get order place ≡ Some receipt
    → transactions_of (take (place + 1) order) ≡ transactions_of (take place order) ++ transaction_of receipt ∷ []
transactions_more order place receipt at =
    ap transactions_of (take_one_more order place receipt at)
    ∙ map-append transaction_of (take place order) (receipt ∷ [])

-- ---- one receipt

entry_next : (log : List CommitOf) (number place : ℕ) → number ≡ place + 1 → entry_at log number ≡ slice_get log place
entry_next log number place is = by_test (number == 0)
    (λ none. let zero_is : number ≡ 0 = number_is number 0 none in absurd (omega (arith, is, zero_is)))
    (λ some. let before : number - 1 ≡ place = omega (arith, is) in
    ap (λ (b : Bool). if b then None else slice_get log (number - 1)) some ∙ ap (slice_get log) before)

new_entry : (old new : Book) (commands : List Command) (time number : ℕ) → Commits old new commands time number
    → slice_get (book_log new) (length (book_log old))
    ≡ Some (commit_of number time (record_of (book_setting old) (book_rows old) commands))
new_entry old new commands time number commits =
    ap (λ (log : List CommitOf). slice_get log (length (book_log old))) commits.log
    ∙ get_last (book_log old) (commit_of number time (record_of (book_setting old) (book_rows old) commands))

longer : (old new : Book) (commands : List Command) (time number : ℕ) → Commits old new commands time number
    → length (book_log new) ≡ length (book_log old) + 1
longer old new commands time number commits = ap length commits.log ∙ length-append (book_log old) _

module _ (book old : Book) (order : List ReceiptOf) (receipt : ReceiptOf) (place : ℕ)
    (so_far : Replays book old order) (counted : length (book_log old) ≡ place)
    (at : slice_get order place ≡ Some receipt) where
  at_end : slice_get order (length (book_log old)) ≡ Some receipt
  at_end = ap (slice_get order) counted ∙ at

  pub replays_one : (new : Book) → IsAgain book old new receipt → Replays book new order
      × (length (book_log new) ≡ place + 1)
  unfolding at_end
  replays_one new again =
      let count : length (book_log new) ≡ length (book_log old) + 1 =
      longer old new receipt.commands receipt.time again.number again.commits in
      let entry : CommitOf =
      commit_of again.number receipt.time (record_of (book_setting old) (book_rows old) receipt.commands) in
      let stood : StandsFor new (transactions_of (take (length (book_log old)) order) ++ transaction_of receipt ∷ []) =
      commits_add_one old new receipt.commands receipt.time again.number again.commits
      (transactions_of (take (length (book_log old)) order)) so_far.stands in
      let more : transactions_of (take (length (book_log new)) order)
      ≡ transactions_of (take (length (book_log old)) order) ++ transaction_of receipt ∷ [] =
      ap (λ (n : ℕ). transactions_of (take n order)) count
      ∙ transactions_more order (length (book_log old)) receipt at_end in
      let there : slice_get (book_log book) (length (book_log old)) ≡ Some entry =
      sym (entry_next (book_log book) again.number (length (book_log old)) again.commits.number_is) ∙ again.same
      ∙ entry_next (book_log new) again.number (length (book_log old)) again.commits.number_is
      ∙ new_entry old new receipt.commands receipt.time again.number again.commits in (
        record {
          named = again.commits.checked ∙ so_far.named;
          limited = again.commits.limit ∙ so_far.limited;
          stands = subst (λ (list : List Transaction). StandsFor new list) (sym more) stood;
          log = again.commits.log ∙ ap (λ (log : List CommitOf). log ++ entry ∷ []) so_far.log
              ∙ sym (take_one_more (book_log book) (length (book_log old)) entry there)
              ∙ ap (λ (n : ℕ). take n (book_log book)) (sym count);
          unused = again.commits.slots ∙ so_far.unused;
        },
        omega (arith, count, counted),
      )

  setting_same : book_setting old ≡ book_setting book
  setting_same = ap setting_in so_far.named

  -- in the setting of the old book
  record Unlike (setting : Setting) : Type 0 where
    is : IsUnlike setting (book_log book) order

  refused_here : ¬ IsAccepted (book_setting old) (after (book_setting old) (transactions_of (take place order)))
      (transaction_of receipt) → IsUnlike (book_setting old) (book_log book) order
  refused_here refused = IsRefusedThere (record {
    place = place;
    receipt = receipt;
    at = at;
    accepted = subst (λ (n : ℕ). AreAccepted (book_setting old) no_rows (transactions_of (take n order))) counted
        so_far.stands.accepted;
    refused = refused;
  })

  alike : AreAlike (book_setting old) (book_rows old) (after (book_setting old) (transactions_of (take place order)))
  alike = are_alike (book_setting old) (book_rows old) (after (book_setting old) (transactions_of (take place order)))
      (subst (λ (n : ℕ). SameTables (book_rows old) (after (book_setting old) (transactions_of (take n order))))
      counted so_far.stands.rows)

  refused_now : (error : CommitError) → error ≢ e.OutOfMemory → length (book_log old) < book_limit old
      → RefusedBy old receipt.commands error
      → ¬ IsAccepted (book_setting old) (after (book_setting old) (transactions_of (take place order)))
      (transaction_of receipt)
  unfolding alike
  refused_now e.EmptyTransaction other room refused is = absurd (omega (arith, is.sized.some, ap length refused))
  refused_now e.TooManyCommands other room refused is = absurd (omega (arith, is.sized.few, refused))
  refused_now e.LogFull other room refused is = absurd (omega (arith, room, refused.full))
  refused_now (e.At number fault) other room refused is = let first = sym (alike.first 1 receipt.commands)
      ∙ refused.first in let none = is.no_fault in absurd cc
  refused_now e.OutOfMemory other room refused is = absurd (other refl)

  unlike_old : length (book_log old) < book_limit old → IsNotAgain book old receipt
      → IsUnlike (book_setting old) (book_log book) order
  unfolding refused_here refused_now alike
  unlike_old room (IsRefusedNow error other refused) = refused_here (refused_now error other room refused)
  unlike_old room (IsOtherNow new number commits apart) = IsOtherThere (record {
    place = place;
    receipt = receipt;
    at = at;
    accepted = subst (λ (n : ℕ). AreAccepted (book_setting old) no_rows (transactions_of (take n order))) counted
        so_far.stands.accepted;
    taken = record { sized = commits.transaction; no_fault = sym (alike.first 1 receipt.commands) ∙ commits.no_fault };
    other = λ same. apart (
        entry_next (book_log book) number (length (book_log old)) commits.number_is
        ∙ ap (slice_get (book_log book)) counted ∙ same
        ∙ ap (λ n. Some (commit_of n receipt.time
        (record_of (book_setting old) (after (book_setting old) (transactions_of (take place order)))
        receipt.commands))) (omega (arith, commits.number_is, counted))
        ∙ ap (λ changes. Some (commit_of number receipt.time changes)) (sym (alike.recorded receipt.commands))
        ∙ sym (new_entry old new receipt.commands receipt.time number commits)
        ∙ sym (entry_next (book_log new) number (length (book_log old)) commits.number_is));
  })

  pub unlike_one : IsAsLong book order → IsNotAgain book old receipt
      → IsUnlike (book_setting book) (book_log book) order
  unfolding setting_same
  unlike_one long not =
      let low : place < length order = slice_get_within order place receipt at in
      subst (λ (setting : Setting). IsUnlike setting (book_log book) order) setting_same
      (unlike_old (omega (arith, low, long.count, long.room, so_far.limited, counted)) not)

  pub missing_one : IsAsLong book order → (error : CloseError) → IsMissingFor (IsNotAgain book old receipt) error
      → IsUnlikeIn book order error
  missing_one long f.CountDiffers missing = missing
  missing_one long f.ReceiptMissing missing = unlike_one long missing
  missing_one long f.ReadingWrong missing = missing
  missing_one long f.TakenDiffers missing = missing
  missing_one long f.ConnectionMissing missing = missing
  missing_one long f.StartLate missing = missing
  missing_one long f.SlotDiffers missing = missing
  missing_one long f.OutOfMemory missing = tt

-- ---- what one call tells

pub other_now : (book old new : Book) (receipt : ReceiptOf) (commands : List Command) (time number : ℕ)
    → commands ≡ receipt.commands → time ≡ receipt.time → Commits old new commands time number
    → entry_at (book_log book) number ≢ entry_at (book_log new) number → IsNotAgain book old receipt
other_now book old new receipt commands time number same at commits apart =
    IsOtherNow new number
    (subst (λ (n : ℕ). Commits old new receipt.commands n number) at
    (subst (λ (list : List Command). Commits old new list time number) same commits)) apart

pub refused_then : (book old : Book) (receipt : ReceiptOf) (commands : List Command) (error : CommitError)
    → commands ≡ receipt.commands → error ≢ e.OutOfMemory → RefusedBy old commands error → IsNotAgain book old receipt
refused_then book old receipt commands error same other refused =
    IsRefusedNow error other (subst (λ (list : List Command). RefusedBy old list error) same refused)

pub passes_on : {A E : Type 0} (P : E → Type 0) (result : Result A E) (error : E) → result ≡ Err error → P error
    → IfErr result P
passes_on P result error is holds = subst (λ r. IfErr r P) (sym is) holds

pub shown_here : (receipts : List (Bor ReceiptOf)) (place : ℕ) (item : Bor ReceiptOf) → place < length receipts
    → item ≡ get_or receipts place item
    → slice_get (map (λ (one : Bor ReceiptOf). one.now) receipts) place ≡ Some item.now
shown_here receipts place item low is =
    slice_get-map (λ (one : Bor ReceiptOf). one.now) receipts place
    ∙ ap (option_map (λ (one : Bor ReceiptOf). one.now)) (get_here receipts place item low is)

-- ---- readings

module _ (book fresh : Book) (order : List ReceiptOf) (so_far : Replays book fresh order) (reading : Reading)
    (count : length (book_log fresh) ≡ reading.number) (few : reading.number ≤ length order) where
  rows_now : book_rows fresh reading.table 0 reading.key
      ≡ after (book_setting book) (take reading.number (transactions_of order)) reading.table 0 reading.key
  rows_now =
      so_far.stands.rows reading.table 0 reading.key
      ∙ ap (λ (n : ℕ). after (book_setting fresh) (transactions_of (take n order)) reading.table 0 reading.key) count
      ∙ ap (λ (list : List Transaction). after (book_setting fresh) list reading.table 0 reading.key)
      (sym (take-map transaction_of reading.number order))
      ∙ ap (λ (setting : Setting). after setting (take reading.number (transactions_of order)) reading.table 0
      reading.key) (ap setting_in so_far.named)

  pub right_now : reading.answer ≡ book_rows fresh reading.table 0 reading.key
      → IsRight (book_setting book) (transactions_of order) reading
  unfolding rows_now
  right_now answer = record
      { within = omega (arith, few, length-map order transaction_of); answer_is = answer ∙ rows_now }

  pub wrong_now : reading.answer ≢ book_rows fresh reading.table 0 reading.key
      → ¬ IsRight (book_setting book) (transactions_of order) reading
  unfolding rows_now
  wrong_now answer right = answer (right.answer_is ∙ sym rows_now)

pub right_then : (book fresh : Book) (order : List ReceiptOf) (reading : Reading) → Replays book fresh order
    → length (book_log fresh) ≡ reading.number → reading.number ≤ length order
    → (result : Bool) → MatchBool result (reading.answer ≡ book_rows fresh reading.table 0 reading.key)
    (reading.answer ≢ book_rows fresh reading.table 0 reading.key)
    → MatchBool result (IsRight (book_setting book) (transactions_of order) reading)
    (¬ IsRight (book_setting book) (transactions_of order) reading)
right_then book fresh order reading so_far count few true answer =
    right_now book fresh order so_far reading count few answer
right_then book fresh order reading so_far count few false answer =
    wrong_now book fresh order so_far reading count few answer

-- the next one is of no fewer commits
pub readings_rise : (readings : List (Bor Reading)) (place count : ℕ) (item d : Bor Reading)
    → IsNonDecreasingBy (λ (one : Bor Reading). one.now.number) readings → place + 1 < length readings
    → item ≡ get_or readings place item → count ≤ item.now.number → count ≤ (get_or readings (place + 1) d).now.number
readings_rise readings place count item d sorted low is up =
    let next : get_or readings (place + 1) d ≡ get_or readings (place + 1) item =
    get_or_from_slice_get readings (place + 1) (get_or readings (place + 1) item) d
    (slice_get-get_or readings (place + 1) item low) in
    let rises : (get_or readings place item).now.number ≤ (get_or readings (place + 1) item).now.number =
    sorted place (place + 1) item (omega arith) low in
    let here : item.now.number ≡ (get_or readings place item).now.number =
    ap (λ (one : Bor Reading). one.now.number) is in
    let there : (get_or readings (place + 1) d).now.number ≡ (get_or readings (place + 1) item).now.number =
    ap (λ (one : Bor Reading). one.now.number) next in
    omega (arith, up, rises, here, there)

module _ (P : Reading → Type 0) (readings : List (Bor Reading)) (place : ℕ) (item : Bor Reading)
    (low : place < length readings) (is : item ≡ get_or readings place item) where
  shown : List Reading
  shown = map (λ (one : Bor Reading). one.now) readings

  at_place : get_or shown place item.now ≡ item.now
  unfolding shown
  at_place = get_or-map (λ (one : Bor Reading). one.now) readings place item item.now low
      ∙ ap (λ (one : Bor Reading). one.now) (sym is)

  inside : place < length shown
  unfolding shown
  inside = omega (arith, low, length-map readings (λ (one : Bor Reading). one.now))

  fewer : All P (take (place + 1) shown) → All P (take place shown)
  fewer all k d short =
      let within : k < place = omega (arith, short, length-take place shown) in
      let long : k < length (take (place + 1) shown) =
      omega (arith, short, length-take place shown, length-take (place + 1) shown) in
      subst P (get_or-take (place + 1) shown k d (omega arith) ∙ sym (get_or-take place shown k d within))
      (all k d long)

  more : P item.now → All P (take place shown) → All P (take (place + 1) shown)
  unfolding at_place inside
  more here all = All-more P shown place item.now inside all (subst P (sym at_place) here)

  pub right_more : (so : Bool) → P item.now
      → MatchBool so (All P (take place (map (λ (one : Bor Reading). one.now) readings)))
      (¬ All P (take place (map (λ (one : Bor Reading). one.now) readings)))
      → MatchBool so (All P (take (place + 1) (map (λ (one : Bor Reading). one.now) readings)))
      (¬ All P (take (place + 1) (map (λ (one : Bor Reading). one.now) readings)))
  unfolding shown fewer more
  right_more true here so_far = more here so_far
  right_more false here so_far = λ all. so_far (fewer all)

  pub wrong_more : (so : Bool) → so ≡ false → ¬ P item.now
      → MatchBool so (All P (take (place + 1) (map (λ (one : Bor Reading). one.now) readings)))
      (¬ All P (take (place + 1) (map (λ (one : Bor Reading). one.now) readings)))
  unfolding shown at_place inside
  wrong_more so is_false wrong =
      subst (λ (b : Bool). MatchBool b (All P (take (place + 1) shown)) (¬ All P (take (place + 1) shown)))
      (sym is_false)
      (λ all. wrong (subst P (get_or-take (place + 1) shown place item.now (omega arith) ∙ at_place)
      (all place item.now (omega (arith, inside, length-take (place + 1) shown)))))

pub so_same : (P Q : Type 0) (new old : Bool) → new ≡ old → MatchBool old P Q → MatchBool new P Q
so_same P Q new old same holds = subst (λ (b : Bool). MatchBool b P Q) (sym same) holds

pub right_at_end : (P : Reading → Type 0) (shown : List Reading) (place : ℕ) (so : Bool) → length shown ≤ place
    → MatchBool so (All P (take place shown)) (¬ All P (take place shown))
    → MatchBool so (All P shown) (¬ All P shown)
right_at_end P shown place so past all =
    subst (λ (list : List Reading). MatchBool so (All P list) (¬ All P list)) (take_all place shown past) all

-- ---- all of them

pub replays_all : (book fresh : Book) (order : List ReceiptOf) → Replays book fresh order → IsAsLong book order
    → length (book_log fresh) ≡ length order
    → StandsFor fresh (transactions_of order) × (book_log fresh ≡ book_log book)
replays_all book fresh order so_far long count = (
  subst (λ (list : List ReceiptOf). StandsFor fresh (transactions_of list))
      (take_all (length (book_log fresh)) order (omega (arith, count))) so_far.stands,
  so_far.log ∙ take_all (length (book_log fresh)) (book_log book) (omega (arith, count, long.count)),
)

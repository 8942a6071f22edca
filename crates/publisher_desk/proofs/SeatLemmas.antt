-- What a seat keeps as a note is added.
use Rattle.std.proofs.Common.{◌≡◌, ◌≢◌, ℕ, zero, suc, ◌+◌, ◌<◌, ◌≤◌, ◌^◌, max, List, [], ◌∷◌, ◌++◌, length, sym, ◌∙◌, ap, subst, arith}
use Rattle.std.specs.Prelude.{Some, ◌==◌, slice_get}
use Rattle.std.proofs.lemmas.List.Elements.{All-nil, All-push}
use Rattle.std.proofs.lemmas.Option.{slice_get_within}
use Rattle.table_changes.proofs.TableLemmas.{some_is}
use Rattle.tables_log.proofs.PlaceLemmas.{number_is, number_apart, get_front, get_last}
use Rattle.publisher_desk.specs.Seats.{note_number, receipts, highest, AreTimed, HasTime, AreUpTo, IsForward, IsSeat}
use Rattle.publisher_desk.specs.declared.note.Note.{Note}
use Rattle.publisher_desk.specs.declared.note.Note.TheVariants.{Committed, Looked}
use Rattle.publisher_desk.specs.declared.note.Reading.{Reading}
use Rattle.publisher_desk.specs.Receipts.{ReceiptOf}
use Rattle.filter_tree.proofs.Tests.{by_test}

-- ---- lists of notes

receipts_append : (notes more : List Note) → receipts (notes ++ more) ≡ receipts notes + receipts more
receipts_append [] more = omega arith
receipts_append (Committed receipt ∷ notes) more = let rest = receipts_append notes more in omega (arith, rest)
receipts_append (Looked reading ∷ notes) more = receipts_append notes more

highest_append : (notes more : List Note) → highest (notes ++ more) ≡ max (highest notes) (highest more)
highest_append [] more = omega arith
highest_append (note ∷ notes) more = let rest = highest_append notes more in omega (arith, rest)

up_to_highest : (notes : List Note) → AreUpTo (highest notes) notes
up_to_highest [] place note at = absurd cc
up_to_highest (first ∷ notes) zero note at = let same : first ≡ note = some_is first note at in
    let number : note_number first ≡ note_number note = ap note_number same in omega (arith, number)
up_to_highest (first ∷ notes) (suc place) note at = let later = up_to_highest notes place note at in
    omega (arith, later)

up_to_number : (notes : List Note) (high number : ℕ) → high ≡ highest notes → high ≤ number → AreUpTo number notes
up_to_number notes high number is low place note at = let one = up_to_highest notes place note at in omega (arith, one)

pub up_to_seen : (notes seen : List Note) (high number : ℕ) → notes ≡ seen → high ≡ highest notes → high ≤ number
    → AreUpTo number seen
up_to_seen notes seen high number same is low =
    subst (λ (list : List Note). AreUpTo number list) same (up_to_number notes high number is low)

-- ---- one note more

forward_more : (notes : List Note) (note : Note)
    → ((reading : Reading) → note ≡ Looked reading → AreUpTo reading.number notes) → IsForward notes
    → IsForward (notes ++ note ∷ [])
forward_more notes note up forward earlier place before reading low at found = by_test (place == length notes)
    (λ here. let same : place ≡ length notes = number_is place (length notes) here in
    let last : note ≡ Looked reading =
    some_is note (Looked reading)
    (sym (get_last notes note) ∙ ap (slice_get (notes ++ note ∷ [])) (sym same) ∙ found) in
    let apart : earlier ≢ length notes = omega arith in
    up reading last earlier before (sym (get_front notes note earlier apart) ∙ at))
    (λ beside. let apart : place ≢ length notes = number_apart place (length notes) beside in
    let inside : slice_get notes place ≡ Some (Looked reading) = sym (get_front notes note place apart) ∙ found in
    let low' : place < length notes = slice_get_within notes place (Looked reading) inside in
    let apart' : earlier ≢ length notes = omega arith in
    forward earlier place before reading low (sym (get_front notes note earlier apart') ∙ at) inside)

pub new_seat : (notes : List Note) (high parts amount : ℕ) → notes ≡ [] → high ≡ 0 → parts ≡ 1 → amount ≡ 0
    → IsSeat notes high parts amount
new_seat notes high parts amount none low one nothing = record {
  one = one;
  counted = nothing ∙ sym (ap receipts none);
  high_is = low ∙ sym (ap highest none);
  timed = subst AreTimed (sym none) (All-nil HasTime);
  forward = λ earlier place note reading low' at found. let no : slice_get [] earlier ≡ Some note =
      subst (λ (list : List Note). slice_get list earlier ≡ Some note) none at in absurd cc;
}

receipt_kept : (notes : List Note) (receipt : ReceiptOf) (high last parts more amount count : ℕ)
    → last ≡ max high receipt.number → receipt.time < 2 ^ 64 → more ≡ parts → count ≡ amount + 1
    → IsSeat notes high parts amount → IsSeat (notes ++ Committed receipt ∷ []) last more count
receipt_kept notes receipt high last parts more amount count last_is timed same one seat = record {
  timed = All-push HasTime notes (Committed receipt) seat.timed timed;
  one = same ∙ seat.one;
  counted = let push = receipts_append notes (Committed receipt ∷ []) in omega (arith, push, seat.counted);
  high_is = let push = highest_append notes (Committed receipt ∷ []) in omega (arith, push, seat.high_is);
  forward = forward_more notes (Committed receipt) (λ reading no. absurd cc) seat.forward;
}

reading_kept : (notes : List Note) (reading : Reading) (high last parts more amount count : ℕ) → last ≡ reading.number
    → high ≤ last → more ≡ parts → count ≡ amount
    → IsSeat notes high parts amount → IsSeat (notes ++ Looked reading ∷ []) last more count
reading_kept notes reading high last parts more amount count last_is low same still seat = record {
  timed = All-push HasTime notes (Looked reading) seat.timed tt;
  one = same ∙ seat.one;
  counted = let push = receipts_append notes (Looked reading ∷ []) in omega (arith, push, still, seat.counted);
  high_is = let push = highest_append notes (Looked reading ∷ []) in omega (arith, push, seat.high_is);
  forward = forward_more notes (Looked reading)
      (λ other same. let number : reading.number ≡ other.number = ap note_number same in
      up_to_number notes high other.number seat.high_is (omega (arith, number))) seat.forward;
}

pub seat_stays : (notes roomy : List Note) (high parts more amount count : ℕ) → roomy ≡ notes → more ≡ parts
    → count ≡ amount → IsSeat notes high parts amount → IsSeat roomy high more count
seat_stays notes roomy high parts more amount count same more_is count_is seat =
    subst (λ (list : List Note). IsSeat list high more count) (sym same)
    (subst (λ (n : ℕ). IsSeat notes high n count) (sym more_is)
    (subst (λ (n : ℕ). IsSeat notes high parts n) (sym count_is) seat))

-- ---- notes that were pushed onto a list with room

module _ (notes roomy all : List Note) (same : roomy ≡ notes) where
  pub receipt_pushed : (receipt : ReceiptOf) (high last number parts more amount count : ℕ)
      → all ≡ roomy ++ Committed receipt ∷ [] → receipt.number ≡ number
      → last ≡ max high number → receipt.time < 2 ^ 64 → more ≡ parts → count ≡ amount + 1
      → IsSeat notes high parts amount → IsSeat all last more count
  receipt_pushed receipt high last number parts more amount count pushed number_is last_is timed more_is count_is seat =
      subst (λ (list : List Note). IsSeat list last more count)
      (sym (pushed ∙ ap (λ (list : List Note). list ++ Committed receipt ∷ []) same))
      (receipt_kept notes receipt high last parts more amount count (omega (arith, last_is, number_is)) timed more_is
      count_is seat)

  pub reading_pushed : (reading : Reading) (high number parts more amount count : ℕ)
      → all ≡ roomy ++ Looked reading ∷ [] → reading.number ≡ number → high ≤ number
      → more ≡ parts → count ≡ amount → IsSeat notes high parts amount → IsSeat all number more count
  reading_pushed reading high number parts more amount count pushed number_is low more_is count_is seat =
      subst (λ (list : List Note). IsSeat list number more count)
      (sym (pushed ∙ ap (λ (list : List Note). list ++ Looked reading ∷ []) same))
      (reading_kept notes reading high number parts more amount count (sym number_is) low more_is count_is seat)

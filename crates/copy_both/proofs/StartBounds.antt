-- What is known of a stream that a book starts: its slot was free, and it starts at the end of the log at the latest.
use Rattle.std.proofs.Common.{◌≡◌, ℕ, ◌+◌, ◌≤◌, max, false, if◌then◌else◌, List, length, refl, sym, ap, subst, ◌∙◌, arith, length-append}
use Rattle.std.specs.Prelude.{Option, Some, None, nat_lt, slice_get}
use Rattle.std.proofs.lemmas.Bool.{ltb-false}
use Rattle.std.proofs.lemmas.List.{length-map}
use Rattle.shard_checker.specs.CheckedView.{CheckedOf}
use Rattle.tables_log.specs.BookView.{book_log, book_slots}
use Rattle.tables_log.specs.Lsn.{end_lsn_of}
use Rattle.tables_log.specs.Routes.{commit_in}
use Rattle.tables_log.specs.Slots.{confirmed_at, slot_fault, start_fault}
use Rattle.tables_log.specs.declared.error.StartError.{StartError}
use Rattle.tables_log.specs.declared.error.StartError.TheVariants.{Ahead, InUse}
use Rattle.tables_log.specs.declared.slots.Slot.{Slot}
use Rattle.tables_log.proofs.StandLemmas.{each_is_logged}
use Rattle.copy_frames.specs.declared.frame.Frame.{Frame}
use Rattle.copy_both.specs.HeardFrames.{AsksFor, BooksOf}
use Rattle.copy_both.specs.Hearing.{Begins, ServedFrom, begin_by, begin_of, offer_in, unless_fault}
use Rattle.copy_both.specs.StartAnswers.{StartAnswerOf, Stream, Refused, asked_of}
use Rattle.copy_both.specs.StartOrder.{slot_name}
use Rattle.filter_tree.proofs.Tests.{by_test}

-- ---- no fault

-- the slot is free, and the requested position is not after the log's end
pub record IsStartable (found : Option Slot) (end position : ℕ) : Type 0 where
  pub slot : Slot
  pub exists : found ≡ Some slot
  pub free : slot.taken ≡ false
  pub within : position ≤ end

pub faultless_start : (found : Option Slot) (end position : ℕ) → slot_fault found end position ≡ None
    → IsStartable found end position
faultless_start None end position none = absurd cc
faultless_start (Some slot) end position none = by_test (nat_lt end position)
    (λ yes. absurd (let wrong : Some Ahead ≡ None =
    sym (ap (λ b. if b then Some Ahead else (if slot.taken then Some InUse else None)) yes) ∙ none in cc))
    (λ no. by_test slot.taken
    (λ used. absurd (let wrong : Some InUse ≡ None =
    sym (ap (λ b. if b then Some Ahead else (if slot.taken then Some InUse else None)) no
    ∙ ap (λ b. if b then Some InUse else None) used) ∙ none in cc))
    (λ free. record { slot = slot; exists = refl; free = free; within = ltb-false end position no }))

-- ---- a stream that starts

-- it was requested from this position on, and nothing is wrong with that
pub record IsBegun (served : ServedFrom) (slots : List Slot) (slot start : ℕ) : Type 0 where
  pub position : ℕ
  pub no_fault : start_fault slots (end_lsn_of served.commits) slot position ≡ None
  pub start_is : max position (confirmed_at slots slot) ≡ start

module _ (served : ServedFrom) (slots : List Slot) (slot start : ℕ) where
  by_fault : (fault : Option StartError) (one position : ℕ) (name : List ℕ)
      → start_fault slots (end_lsn_of served.commits) one position ≡ fault
      → unless_fault fault one (max position (confirmed_at slots one)) name ≡ Begins slot start
      → IsBegun served slots slot start
  by_fault None one position name none is =
      let same : one ≡ slot = cc in
      let at : max position (confirmed_at slots one) ≡ start = cc in
      record {
        position = position;
        no_fault = subst (λ s. start_fault slots (end_lsn_of served.commits) s position ≡ None) same none;
        start_is = subst (λ s. max position (confirmed_at slots s) ≡ start) same at;
      }
  by_fault (Some error) one position name some is = absurd cc

  by_asked : (asked : StartAnswerOf) → begin_by served slots asked ≡ Begins slot start → IsBegun served slots slot start
  by_asked (Refused refusal) is = absurd cc
  by_asked (Stream one position) is =
      by_fault (start_fault slots (end_lsn_of served.commits) one position) one position
      (slot_name served.checked.catalog.subscriptions one) refl is

  pub is_begun : (kind : ℕ) (body : List ℕ) → begin_of served slots kind body ≡ Begins slot start
      → IsBegun served slots slot start
  unfolding begin_of
  is_begun kind body is = by_asked (asked_of (offer_in served) kind body) is

-- ---- the end of the log

greatest_within : (position confirmed start commits count : ℕ) → max position confirmed ≡ start
    → position ≤ end_lsn_of commits → confirmed ≤ end_lsn_of commits → commits ≤ count → start ≤ end_lsn_of count
greatest_within position confirmed start commits count is one other fewer = omega arith

pub start_within : (checked : CheckedOf) (known : BooksOf) (frames : List Frame) (slot start : ℕ)
    → AsksFor checked known frames slot start → start ≤ end_lsn_of (length known.log)
start_within checked known frames slot start asks =
    let slots : List Slot = book_slots asks.book in
    let commits : ℕ = length (book_log asks.book) in
    let begun : IsBegun (record { checked = checked; commits = commits }) slots slot start =
    is_begun (record { checked = checked; commits = commits }) slots slot start asks.frame.kind asks.frame.body
    asks.begins in
    let startable = faultless_start (slice_get slots slot) (end_lsn_of commits) begun.position begun.no_fault in
    let each : commits ≡ length asks.is.transactions =
    each_is_logged asks.book asks.is.transactions asks.is.stands in
    let all : length known.log ≡ length asks.is.transactions + length asks.is.begins.later =
    ap length asks.is.begins.log_is ∙ length-append asks.is.transactions asks.is.begins.later in
    let bounded : confirmed_at slots slot ≤ end_lsn_of commits =
    subst (λ n. confirmed_at slots slot ≤ end_lsn_of n) (sym (length-map asks.book.log.items commit_in))
    (asks.book.bounded slot) in
    greatest_within begun.position (confirmed_at slots slot) start commits (length known.log) begun.start_is
    startable.within bounded (omega (arith, each, all))

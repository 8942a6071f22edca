-- Lists are committed one after another.
use Rattle.std.proofs.Common.{◌≡◌, ◌≢◌, ℕ, ◌+◌, inl, inr, List, [], ◌∷◌, ◌++◌, length, IfOk, IfErr, OnErr, refl, sym, ◌∙◌, ap, subst, arith}
use Rattle.std.specs.Prelude.{Result, Ok, Err}
use Rattle.std.proofs.lemmas.List.{length-append}
use Rattle.shard_checker.specs.CheckedView.{CheckedOf, setting_in}
use Rattle.table_changes.specs.Commands.{Command}
use Rattle.tables_log.specs.declared.error.CommitError.{CommitError}
use Rattle.tables_log.specs.declared.error.CommitError.TheVariants.{OutOfMemory}
use Rattle.publisher_desk.specs.Answers.{IsMade}
use Rattle.publisher_desk.specs.Logged.{IsRefused}
use Rattle.publisher_desk.specs.Receipts.{ReceiptOf, receipt_of}
use Rattle.publisher_desk.specs.Refusals.{HasFault}
use Rattle.publisher_desk.specs.Seats.{SeatOf, SeesOn}
use Rattle.publisher_desk.specs.declared.note.Note.{Note}
use Rattle.publisher_desk.specs.declared.note.Note.TheVariants.{Committed, Looked}
use Rattle.senders.specs.Gathering.{receipts_in}
use Rattle.cli.specs.Sessions.{AreCommitted, TakesUp}

-- ---- all notes of the session are receipts

one_more : (notes : List Note) (receipt : ReceiptOf)
    → receipts_in (notes ++ Committed receipt ∷ []) ≡ receipts_in notes ++ receipt ∷ []
one_more [] receipt = refl
one_more (Committed first ∷ notes) receipt = ap (λ (l : List ReceiptOf). first ∷ l) (one_more notes receipt)
one_more (Looked reading ∷ notes) receipt = one_more notes receipt

all_with_one : (notes : List Note) (receipt : ReceiptOf) → length (receipts_in notes) ≡ length notes
    → length (receipts_in (notes ++ Committed receipt ∷ [])) ≡ length (notes ++ Committed receipt ∷ [])
all_with_one notes receipt h =
    ap length (one_more notes receipt) ∙ (length-append (receipts_in notes) (receipt ∷ [])
    ∙ (ap (λ (n : ℕ). n + 1) h ∙ sym (length-append notes (Committed receipt ∷ []))))

-- so far, each note of a seat is a receipt
abbrev pub AllReceipts : SeatOf → Type 0
AllReceipts seat = length (receipts_in seat.notes) ≡ length seat.notes

module _ (checked : CheckedOf) (limit : ℕ) where
  all_after : (time : ℕ) (commands : List Command) (had has : SeatOf) → TakesUp checked limit time commands had has
      → AllReceipts had → AllReceipts has
  all_after time commands had has takes h =
      elim takes.0 [
        | inl made ↦ subst (λ (n : List Note). length (receipts_in n) ≡ length n) (sym made.last)
            (all_with_one had.notes (receipt_of made.number commands time) h)
        | inr passed ↦ subst (λ (n : List Note). length (receipts_in n) ≡ length n) (sym passed.1) h
      ]

  pub receipts_are_all : (time : ℕ) (lists : List (List Command)) (had has : SeatOf)
      → AreCommitted checked limit time lists had has → AllReceipts had → AllReceipts has
  receipts_are_all time [] had has same h = subst AllReceipts (sym same) h
  receipts_are_all time (commands ∷ lists) had has are h =
      receipts_are_all (time + 1) lists are.0 has are.2 (all_after time commands had are.0 are.1 h)

  -- ---- a list

  -- the answer of a commit, if memory has not run out
  pub takes_up : (time : ℕ) (commands : List Command) (had has : SeatOf) (result : Result ℕ CommitError)
      → IfErr result (λ error. error ≢ OutOfMemory)
      → IfOk result (λ number. has.notes ≡ had.notes ++ Committed (receipt_of number commands time) ∷ [])
      → IfOk result (IsMade checked limit had.seen has.seen commands time) → IfErr result (IsRefused checked limit has commands)
      → IfErr result (HasFault (setting_in checked) commands) → OnErr result (has.notes ≡ had.notes)
      → SeesOn had has → TakesUp checked limit time commands had has
  takes_up time commands had has (Ok number) known last made refused fault same begins =
      (inl (record { number = number; made = made; last = last }), begins)
  takes_up time commands had has (Err error) known last made refused fault same begins =
      (inr (record { error = error; known = known; refused = refused; fault = fault }, same), begins)

  -- ---- list by list

  -- whatever the lists that are left come to, all come to that
  abbrev pub CarriesOn : List (List Command) → ℕ → List (List Command) → SeatOf → SeatOf → Type 0
  CarriesOn all time left first now = (new : SeatOf) → AreCommitted checked limit time left now new
      → AreCommitted checked limit 1 all first new

  pub begins : (all left : List (List Command)) (first : SeatOf) → left ≡ all → CarriesOn all 1 left first first
  begins all left first same new are =
      subst (λ (l : List (List Command)). AreCommitted checked limit 1 l first new) same are

  -- `before` are the lists that were left
  pub goes_on : (all before left : List (List Command)) (time : ℕ) (commands : List Command) (first now next : SeatOf)
      → before ≡ commands ∷ left → CarriesOn all time before first now
      → TakesUp checked limit time commands now next → CarriesOn all (time + 1) left first next
  goes_on all before left time commands first now next split carries takes new are =
      carries new (subst (λ (l : List (List Command)). AreCommitted checked limit time l now new) (sym split)
      (next, takes, are))

  pub ends : (all left : List (List Command)) (time : ℕ) (first now : SeatOf) → length left ≡ 0
      → CarriesOn all time left first now → AreCommitted checked limit 1 all first now
  ends all [] time first now none carries = carries now refl
  ends all (commands ∷ left) time first now none carries = absurd (omega (arith, none))

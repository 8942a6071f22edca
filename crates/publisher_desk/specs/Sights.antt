-- What tokens know of a log that only grows: of which beginning of it, and of which commits of their own.
use Rattle.std.specs.Prelude.{◌≡◌, ℕ, ◌+◌, ◌<◌, ◌≤◌, ◌==◌, List, [], ◌∷◌, ◌++◌, length, Bool, true, false, if◌then◌else◌, Option, Some, None}
use mathlib.Core.Option.{some}
use lib.ListN.{get_elem?}
use Rattle.atomic_table.specs.Seated.{TableId}
use Rattle.publisher_desk.specs.declared.sight.Sight.{Sight}
use Rattle.publisher_desk.specs.declared.sight.HistoryView.{HistoryView}
use Rattle.publisher_desk.specs.Receipts.{ReceiptOf}

-- the name of no table
abbrev pub no_table : TableId
no_table = record { words = 0; slots = 0; views_name = 0; atom = 0; block = 0; offset = 0; slot_names = [] }

abbrev pub sight : List ReceiptOf → List ℕ → Sight
sight seen own = record { seen = seen; own = own }

abbrev pub view_of : Bool → List ReceiptOf → List Sight → HistoryView
view_of keeps all sights = record { keeps = keeps; all = all; sights = sights }

-- The log begins with these.
abbrev pub StartsWith : List ReceiptOf → List ReceiptOf → Type 0
StartsWith log seen = (rest : List ReceiptOf) × (log ≡ seen ++ rest)

abbrev pub AreSeen : List ReceiptOf → List Sight → Type 0
AreSeen log [] = Unit {0}
AreSeen log (one ∷ sights) = StartsWith log one.seen × AreSeen log sights

-- how often the number is among these
abbrev pub times : ℕ → List ℕ → ℕ
times n [] = 0
times n (number ∷ numbers) = (if number == n then 1 else 0) + times n numbers

-- how often it is among the own numbers of the sights
abbrev pub drawn_in : ℕ → List Sight → ℕ
drawn_in n [] = 0
drawn_in n (one ∷ sights) = times n one.own + drawn_in n sights

-- and of the views
abbrev pub drawn : ℕ → List HistoryView → ℕ
drawn n [] = 0
drawn n (view ∷ views) = drawn_in n view.sights + drawn n views

abbrev pub Fits : ℕ → List ReceiptOf → ℕ → HistoryView → Type 0
Fits keeper log by view = (view.keeps ≡ true → (by ≡ keeper) × (view.all ≡ log)) × AreSeen log view.sights

-- One view at most has the whole log, each sight has seen a beginning of it, and no number is drawn twice, or is above
-- the log's length.
pub record IsKept (views : List HistoryView) : Type 0 where
  pub keeper : ℕ
  pub log : List ReceiptOf
  pub each : (by : ℕ) (view : HistoryView) → get_elem? views by ≡ some view → Fits keeper log by view
  pub once : (n : ℕ) → drawn n views ≤ 1
  pub low : (n : ℕ) → length log < n → drawn n views ≡ 0

-- what is so of the view that has the whole log
pub record HasWholeLog (view : HistoryView) : Type 0 where
  pub seen : AreSeen view.all view.sights
  pub once : (n : ℕ) → drawn_in n view.sights ≤ 1
  pub low : (n : ℕ) → length view.all < n → drawn_in n view.sights ≡ 0

-- ---- steps

abbrev pub begun : HistoryView → HistoryView
begun view = view_of view.keeps view.all (sight [] [] ∷ view.sights)

abbrev pub shown_in : List ReceiptOf → List Sight → List Sight
shown_in all [] = []
shown_in all (one ∷ sights) = sight all one.own ∷ sights

abbrev pub shown : HistoryView → HistoryView
shown view = view_of view.keeps view.all (shown_in view.all view.sights)

abbrev pub added_in : List ReceiptOf → ℕ → List Sight → List Sight
added_in all number [] = []
added_in all number (one ∷ sights) = sight all (one.own ++ number ∷ []) ∷ sights

abbrev pub added : ReceiptOf → HistoryView → HistoryView
added receipt view = view_of view.keeps (view.all ++ receipt ∷ [])
    (added_in (view.all ++ receipt ∷ []) receipt.number view.sights)

-- ---- cutting and joining

abbrev pub first_in : List Sight → Sight
first_in [] = sight [] []
first_in (one ∷ sights) = one

abbrev pub rest_in : List Sight → List Sight
rest_in [] = []
rest_in (one ∷ sights) = sights

abbrev pub holder : Sight → HistoryView
holder one = view_of false [] (one ∷ [])

abbrev pub only_in : List Sight → List Sight
only_in [] = []
only_in (one ∷ sights) = one ∷ []

abbrev pub left : HistoryView → HistoryView
left view = view_of view.keeps view.all (rest_in view.sights)

abbrev pub given : HistoryView → HistoryView
given view = view_of false [] (only_in view.sights)

abbrev pub joined : HistoryView → HistoryView → HistoryView
joined view other = view_of view.keeps view.all (other.sights ++ view.sights)

abbrev pub nobody : HistoryView
nobody = view_of false [] []

abbrev pub sight_of : Option Sight → Sight
sight_of None = sight [] []
sight_of (Some one) = one

-- ---- seats

-- The seat has seen the whole log.
pub record Sees (log : List ReceiptOf) (old new : Sight) : Type 0 where
  pub begins : StartsWith log old.seen
  pub seen : new.seen ≡ log
  pub own : new.own ≡ old.own

-- It has seen the whole log and the receipt, which comes next and is its own.
pub record AddsTo (log : List ReceiptOf) (receipt : ReceiptOf) (old new : Sight) : Type 0 where
  pub begins : StartsWith log old.seen
  pub number : receipt.number ≡ length log + 1
  pub seen : new.seen ≡ log ++ receipt ∷ []
  pub own : new.own ≡ old.own ++ receipt.number ∷ []

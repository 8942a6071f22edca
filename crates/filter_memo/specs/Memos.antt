-- Texts of rows that depend only on the values of filters, and a memo of such texts: row filters of PostgreSQL 15,
-- "Logical Replication", 31.3 Row Filters.
use Rattle.std.specs.Prelude.{◌≡◌, ℕ, true, List, Option, Some, None, All}
use Rattle.std.specs.String.{string_bytes}
use Rattle.filter_tree.specs.Datum.{Datum}
use Rattle.filter_tree.specs.Expr.{Expr}
use Rattle.filter_tree.specs.declared.filter.Filter.{Filter}
pub use Rattle.filter_memo.specs.Atoms.{says, SayTheSame}
use Rattle.filter_memo.specs.Atoms.{IsAtomsOf, Locates}
use Rattle.filter_memo.specs.Telling.{Tells}
use Rattle.filter_memo.specs.declared.memo.Kept.{Kept}
use Rattle.filter_memo.specs.declared.memo.Memo.{Memo}
use Rattle.filter_memo.specs.declared.said.Said.{Said}

-- the text of a row depends only on the values of the filters
pub record Follows (filters : List (Option Expr)) (text_of : List Datum → List ℕ) : Type 0 where
  pub same : (one other : List Datum) → SayTheSame filters one other → text_of one ≡ text_of other

-- rows with the same values of the parts have the same text
pub record IsText {A : _} (parts : List (Filter A)) (text_of : List Datum → List ℕ) : Type 0 where
  pub same : (one other : List Datum) (said : Said) → Tells parts one said → Tells parts other said
      → text_of one ≡ text_of other

-- the kept text is the text of each row with these values of the parts
abbrev pub IsKept : {A : _} → List (Filter A) → (List Datum → List ℕ) → Option Kept → Type 0
IsKept parts text_of None = Unit {0}
IsKept parts text_of (Some kept) =
    (row : List Datum) → Tells parts row kept.said → string_bytes kept.text ≡ text_of row

-- the memo is of these filters, and each text that it keeps is the text of its rows
pub record IsMemoOf (filters : List (Option Expr)) (text_of : List Datum → List ℕ) (memo : Memo) : Type 0 where
  pub atoms : IsAtomsOf filters memo.atoms
  pub text : memo.atoms.is_used ≡ true → IsText memo.atoms.parts.items text_of
  pub kept : memo.atoms.is_used ≡ true → All (IsKept memo.atoms.parts.items text_of) memo.slots.items

-- the values are those of the row
pub record IsLocated (memo : Memo) (row : List Datum) (said : Said) : Type 0 where
  pub atoms : Locates memo.atoms row said

-- no slot has a text
abbrev pub AreEmpty : List (Option Kept) → Type 0
AreEmpty slots = All (λ slot. slot ≡ None) slots

-- The order of values and of rows, as ORDER BY .. NULLS FIRST sorts them: PostgreSQL 15, 7.5 Sorting Rows, 9.2
-- Comparison Functions and Operators, and for texts 24.2.2.1 Standard Collations (collation "C", which compares their
-- bytes).
use Rattle.std.specs.Prelude.{◌≡◌, ℕ, ℤ, pos, Bool, false, List, []}
use Rattle.std.specs.Ordering.{nat_cmp, int_cmp, bool_cmp, eq_by_cmp, on, then_cmp}
use Rattle.std.specs.Cmp.Lexicographic.{slice_cmp}
use Rattle.std.specs.declared.cmp.Ordering.{Ordering}
use Rattle.std.specs.declared.cmp.Ordering.TheVariants.{Less}
use Rattle.filter_tree.specs.Datum.{Constant, Number, Truth, Bytes, Datum, Missing, Known}
use Rattle.filter_tree.specs.Same.{same_row}

-- Null comes before all else. No column has values of two kinds; between them the order is numbers, truth values,
-- texts.
abbrev pub datum_rank : Datum → ℕ
datum_rank Missing = 0
datum_rank (Known (Number number)) = 1
datum_rank (Known (Truth truth)) = 2
datum_rank (Known (Bytes bytes)) = 3

-- for a value of each kind, what distinguishes it from the others of its kind
abbrev pub datum_number : Datum → ℤ
datum_number (Known (Number number)) = number
datum_number value = pos 0

abbrev pub datum_truth : Datum → Bool
datum_truth (Known (Truth truth)) = truth
datum_truth value = false

abbrev pub datum_bytes : Datum → List ℕ
datum_bytes (Known (Bytes bytes)) = bytes
datum_bytes value = []

-- by kind, numbers by their size, FALSE before TRUE, texts byte by byte
abbrev pub datum_cmp : Datum → Datum → Ordering
datum_cmp = then_cmp (on datum_rank nat_cmp) (then_cmp (on datum_number int_cmp)
    (then_cmp (on datum_truth bool_cmp) (on datum_bytes (slice_cmp nat_cmp))))

-- by the first column in which they differ; a row that is the beginning of another comes before it
abbrev pub row_cmp : List Datum → List Datum → Ordering
row_cmp = slice_cmp datum_cmp

-- ---- laws

-- The order of two values, by cases.
pub record OrdersValues : Type 0 where
  pub nulls : (value : Constant) → datum_cmp Missing (Known value) ≡ Less
  pub numbers : (one other : ℤ) → datum_cmp (Known (Number one)) (Known (Number other)) ≡ int_cmp one other
  pub truths : (one other : Bool) → datum_cmp (Known (Truth one)) (Known (Truth other)) ≡ bool_cmp one other
  pub texts : (one other : List ℕ) → datum_cmp (Known (Bytes one)) (Known (Bytes other)) ≡ slice_cmp nat_cmp one other

-- Rows tie exactly if they are the same.
abbrev pub TiesSameRows : Type 0
TiesSameRows = (one other : List Datum) → eq_by_cmp row_cmp one other ≡ same_row one other

-- The values of numbered filters for a row: row filters of PostgreSQL 15, "Logical Replication", 31.3 Row Filters.
use Rattle.std.specs.Prelude.{◌≡◌, ◌<◌, ◌==◌, ℕ, ℤ, Bool, true, false, if◌then◌else◌, List, [], length, Option, Some, None, slice_get, All}
use Rattle.std.specs.List.{flat_map, list_any}
use Rattle.filter_tree.specs.Datum.{Datum}
use Rattle.filter_tree.specs.Expr.{Expr, Const, meaning, term_value}
use Rattle.filter_tree.specs.Shape.{expr_view}
use Rattle.filter_tree.specs.declared.filter.Filter.{Filter}
use Rattle.filter_tree.specs.declared.tri.Tri.{Tri}
use Rattle.filter_tree.specs.declared.tri.Tri.TheVariants.{False}
use Rattle.filter_memo.specs.Bits.{said_at}
use Rattle.filter_memo.specs.Intervals.{AreAlike, IsBetween, HasNoNumber}
use Rattle.filter_memo.specs.Buckets.{IsBucket}
use Rattle.filter_memo.specs.declared.interval.Interval.{Interval}
use Rattle.filter_memo.specs.declared.bucket.Bucket.{Bucket}
use Rattle.filter_memo.specs.declared.said.Said.{Said}
use Rattle.filter_memo.specs.declared.breakpoints.Breakpoints.{Breakpoints}
use Rattle.filter_memo.specs.declared.telling.Cell.{Cell}
use Rattle.filter_memo.specs.declared.telling.Cells.{Cells}

-- ---- filters by their numbers

abbrev pub filter_or_false : {A : _} → Option (Filter A) → Expr
filter_or_false None = Const false
filter_or_false (Some filter) = expr_view filter

-- a number without a filter counts as false
abbrev pub part_at : {A : _} → List (Filter A) → ℕ → Expr
part_at parts number = filter_or_false (slice_get parts number)

abbrev pub has_number : List ℕ → ℕ → Bool
has_number numbers number = list_any (λ own. number == own) numbers

-- the value of a filter that has one of these numbers; the others are false
abbrev pub numbered_value : {A : _} → List (Filter A) → List ℕ → List Datum → ℕ → Tri
numbered_value parts numbers row number =
    if has_number numbers number then meaning (part_at parts number) row else False

-- the values of the filters with these numbers
pub record TellsThese {A : _} (parts : List (Filter A)) (numbers : List ℕ) (row : List Datum) (said : Said) :
    Type 0 where
  pub each : (number : ℕ) → number < 64 → said_at said number ≡ numbered_value parts numbers row number

-- the values of all filters
pub record Tells {A : _} (parts : List (Filter A)) (row : List Datum) (said : Said) : Type 0 where
  pub each : (number : ℕ) → number < length parts → number < 64
      → said_at said number ≡ meaning (part_at parts number) row

-- ---- breakpoints

-- the numbers of the filters that the breakpoints evaluate
abbrev pub numbers_in : List Breakpoints → List ℕ
numbers_in all_breakpoints = flat_map (λ breakpoints. breakpoints.numbers.items) all_breakpoints

abbrev pub numbers_of : Option Breakpoints → List ℕ
numbers_of None = []
numbers_of (Some breakpoints) = breakpoints.numbers.items

abbrev pub numbers_at : List Breakpoints → ℕ → List ℕ
numbers_at all_breakpoints at = numbers_of (slice_get all_breakpoints at)

-- the breakpoints evaluate each filter whose number is below `count`
pub record AreEvaluated (all_breakpoints : List Breakpoints) (count : ℕ) : Type 0 where
  pub each : (number : ℕ) → number < count → has_number (numbers_in all_breakpoints) number ≡ true

-- the filters have the same values for rows in the same bucket, and for rows in an interval that no constant divides
pub record IsSettled {A : _} (parts : List (Filter A)) (breakpoints : Breakpoints) : Type 0 where
  pub same : (one other : List Datum) (bucket : Bucket) (said : Said)
      → IsBucket breakpoints.bounds.items (term_value breakpoints.term one) bucket
      → IsBucket breakpoints.bounds.items (term_value breakpoints.term other) bucket
      → TellsThese parts breakpoints.numbers.items one said → TellsThese parts breakpoints.numbers.items other said
  pub alike : (one other : List Datum) (low high : ℤ) (said : Said) → AreAlike breakpoints.bounds.items low high
      → IsBetween (term_value breakpoints.term one) low high → IsBetween (term_value breakpoints.term other) low high
      → TellsThese parts breakpoints.numbers.items one said → TellsThese parts breakpoints.numbers.items other said

abbrev pub AreSettled : {A : _} → List (Filter A) → List Breakpoints → Type 0
AreSettled parts all_breakpoints = All (IsSettled parts) all_breakpoints

-- ---- cells

-- the cell has the values of the filters for each row in its bucket
abbrev pub IsCell : {A : _} → List (Filter A) → List Breakpoints → Option Cell → Type 0
IsCell parts all_breakpoints None = Unit {0}
IsCell parts all_breakpoints (Some cell) = (breakpoints : Breakpoints) (row : List Datum)
    → slice_get all_breakpoints cell.term ≡ Some breakpoints
    → IsBucket breakpoints.bounds.items (term_value breakpoints.term row) cell.bucket
    → TellsThese parts breakpoints.numbers.items row cell.said

-- the interval has the values of the filters for each row whose term is in it
pub record IsInterval {A : _} (parts : List (Filter A)) (all_breakpoints : List Breakpoints) (interval : Interval) :
    Type 0 where
  pub tells : (breakpoints : Breakpoints) (row : List Datum)
      → slice_get all_breakpoints interval.term ≡ Some breakpoints
      → IsBetween (term_value breakpoints.term row) interval.low interval.high
      → TellsThese parts breakpoints.numbers.items row interval.said

pub record AreCells {A : _} (parts : List (Filter A)) (all_breakpoints : List Breakpoints) (cells : Cells) :
    Type 0 where
  pub settled : AreSettled parts all_breakpoints
  pub buckets : All (IsCell parts all_breakpoints) cells.buckets.items
  pub intervals : All (IsInterval parts all_breakpoints) cells.intervals.items

-- all cells are empty
pub record AreNew (cells : Cells) : Type 0 where
  pub buckets : All (λ cell. cell ≡ None) cells.buckets.items
  pub intervals : All HasNoNumber cells.intervals.items

-- the cells stay right, and the values are those of the row
pub record Judges {A : _} (parts : List (Filter A)) (all_breakpoints : List Breakpoints) (cells : Cells)
    (numbers : List ℕ) (row : List Datum) (said : Said) : Type 0 where
  pub kept : AreCells parts all_breakpoints cells
  pub values : TellsThese parts numbers row said

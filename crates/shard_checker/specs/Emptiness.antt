-- When a term has no value left at the end of a path, so that there is no row there: "9.2 Comparison Functions and
-- Operators". A comparison is null if its column is null, and only then, and `IS DISTINCT FROM` is never null.
use Rattle.std.specs.Prelude.{◌≡◌, Bool, true, false, ◌↔◌, List, Some}
use Rattle.filter_tree.specs.Datum.{Constant, Datum, Missing, Known}
use Rattle.filter_tree.specs.Lists.{column_of}
use Rattle.filter_tree.specs.Paths.{Path}
use Rattle.filter_tree.specs.declared.filter.Term.{Term}
use Rattle.filter_tree.specs.declared.table.Column.{Column}
use Rattle.shard_checker.specs.Domain.{kind_at, IsInDomain}
use Rattle.shard_checker.specs.Facts.{is_said_null, is_present, may_be}

-- the constant is left for the term: it is in the term's domain, nothing says that the column is null, and each test of
-- the term that was found true or false is so for it
pub record IsConstantLeft (columns : List Column) (term : Term) (path : Path) (constant : Constant) : Type 0 where
  pub in_domain : IsInDomain (kind_at columns (column_of term)) term constant
  pub may_be_known : is_said_null (column_of term) path ≡ false
  pub agrees : may_be term path (Some constant) ≡ true

-- the value is left for the term; null is left if nothing says that the column is not null
abbrev pub IsLeft : List Column → Term → Path → Datum → Type 0
IsLeft columns term path Missing = is_present columns (column_of term) path ≡ false
IsLeft columns term path (Known constant) = IsConstantLeft columns term path constant

-- some value is left for the term
pub record HasValue (columns : List Column) (term : Term) (path : Path) : Type 0 where
  pub value : Datum
  pub left : IsLeft columns term path value

-- a test for a term at the end of a path, for a table with these columns
abbrev pub EmptyTest : Type 0
EmptyTest = List Column → Term → Path → Bool

-- the test holds exactly for the terms that have no value left
pub record IsEmptiness (test : EmptyTest) : Type 0 where
  pub empty : (columns : List Column) (term : Term) (path : Path) → (test columns term path ≡ true)
      ↔ (HasValue columns term path → ⊥)
  pub others : (columns : List Column) (term : Term) (path : Path) → (test columns term path ≡ false)
      ↔ HasValue columns term path

-- such a test exists
pub record EmptinessIsDecidable : Type 0 where
  pub test : EmptyTest
  pub tells : IsEmptiness test

-- The constants of a list in ascending order, each once: in the order of "7.5 Sorting Rows", with duplicates dropped as
-- in "7.3.3 DISTINCT".
use Rattle.std.specs.Prelude.{◌≡◌, ℕ, Bool, List, [], fold}
use Rattle.std.specs.BTreeSet.{insert_key}
use Rattle.std.specs.List.{list_any}
use Rattle.std.specs.List.Sorted.{IsStrictlySortedBy}
use Rattle.std.specs.declared.cmp.Ordering.{Ordering}
use Rattle.filter_tree.specs.Datum.{Constant, Known}
use Rattle.filter_tree.specs.Order.{datum_rank, datum_cmp}
use Rattle.filter_tree.specs.Same.{same_constant}

-- the order of the values of two constants
abbrev pub constant_cmp : Constant → Constant → Ordering
constant_cmp one other = datum_cmp (Known one) (Known other)

-- numbers come before truth values, and these before texts; no list that was read has constants of two kinds
abbrev pub constant_rank : Constant → ℕ
constant_rank constant = datum_rank (Known constant)

-- an ordered list, with the constant added in its place unless it is in the list
abbrev pub inserted_in_order : List Constant → Constant → List Constant
inserted_in_order constants constant = insert_key constant_cmp constants constant

unfoldable pub ascending : List Constant → List Constant
ascending constants = fold inserted_in_order [] constants

-- ---- laws

abbrev pub has_constant : Constant → List Constant → Bool
has_constant constant constants = list_any (same_constant constant) constants

-- Each constant is less than the next, and the list has exactly the constants from which it is made.
pub record ListsAscend : Type 0 where
  pub strictly : (constants : List Constant) → IsStrictlySortedBy constant_cmp (ascending constants)
  pub members : (constant : Constant) (constants : List Constant)
      → has_constant constant (ascending constants) ≡ has_constant constant constants

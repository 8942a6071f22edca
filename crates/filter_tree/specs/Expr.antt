-- Row filters ("31.3 Row Filters") as plain data, and their meaning on a row: "4.2 Value Expressions" with the
-- operators of "9.1 Logical Operators", "9.2 Comparison Functions and Operators", "9.3 Mathematical Functions and
-- Operators" and "9.24 Row and Array Comparisons".
use Rattle.std.specs.Prelude.{ℕ, ℤ, Bool, List, int_rem}
use Rattle.filter_tree.specs.Datum.{Constant, Number, Datum, Missing, Known, value_at}
use Rattle.filter_tree.specs.Logic.{and_of, or_of, not_of, is_of, tri_of}
use Rattle.filter_tree.specs.Compare.{compare_of, among_of, between_of, distinct_of}
use Rattle.filter_tree.specs.declared.tri.Tri.{Tri}
use Rattle.filter_tree.specs.declared.tri.Tri.TheVariants.{True, False}
use Rattle.filter_tree.specs.declared.filter.Term.{Term}
use Rattle.filter_tree.specs.declared.filter.Term.TheVariants.{Col, Mod}
use Rattle.filter_tree.specs.declared.filter.Op.{Op}
use Rattle.filter_tree.specs.declared.filter.Test.{Test}

-- a test of one column: a comparison of a term with a constant, `IS NULL`, IN a list of constants, BETWEEN two
-- numbers, or `IS DISTINCT FROM` a constant
pub data AtomOf : Type 0 where
  Cmp : Term → Op → Constant → AtomOf
  IsNull : ℕ → AtomOf
  In : Term → List Constant → AtomOf
  Between : Term → ℤ → ℤ → AtomOf
  Distinct : Term → Constant → AtomOf

-- a filter: a constant, an atom, NOT, AND, OR, or an IS test
pub data Expr : Type 0 where
  Const : Bool → Expr
  Atom : AtomOf → Expr
  Not : Expr → Expr
  And : Expr → Expr → Expr
  Or : Expr → Expr → Expr
  Is : Test → Expr → Expr

-- the remainder of a number: it truncates towards zero, and the remainder by 0 is the number itself; any other value
-- stays as it is
abbrev pub remainder_of : Datum → ℤ → Datum
remainder_of (Known (Number n)) divisor = Known (Number (int_rem n divisor))
remainder_of value divisor = value

abbrev pub term_value : Term → List Datum → Datum
term_value (Col column) row = value_at row column
term_value (Mod column divisor) row = remainder_of (value_at row column) divisor

-- `IS NULL`, which is never null itself
abbrev pub is_missing : Datum → Tri
is_missing Missing = True
is_missing (Known value) = False

-- what an atom looks at; `IS NULL` looks at its column
abbrev pub term_of : AtomOf → Term
term_of (Cmp term op constant) = term
term_of (IsNull column) = Col column
term_of (In term constants) = term
term_of (Between term low high) = term
term_of (Distinct term constant) = term

-- what an atom says about the value of its term
abbrev pub said_of : AtomOf → Datum → Tri
said_of (Cmp term op constant) value = compare_of op value constant
said_of (IsNull column) value = is_missing value
said_of (In term constants) value = among_of value constants
said_of (Between term low high) value = between_of value low high
said_of (Distinct term constant) value = distinct_of value constant

abbrev pub atom_meaning : AtomOf → List Datum → Tri
atom_meaning atom row = said_of atom (term_value (term_of atom) row)

-- what a filter says about a row
abbrev pub meaning : Expr → List Datum → Tri
meaning (Const known) row = tri_of known
meaning (Atom atom) row = atom_meaning atom row
meaning (Not part) row = not_of (meaning part row)
meaning (And left right) row = and_of (meaning left row) (meaning right row)
meaning (Or left right) row = or_of (meaning left row) (meaning right row)
meaning (Is test part) row = is_of test (meaning part row)

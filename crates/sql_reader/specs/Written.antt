-- The meaning of a filter as it is written, by the forms of its grammar: PostgreSQL 15, "Value Expressions", 4.2, by
-- the tables of "9.1 Logical Operators", "9.2 Comparison Functions and Operators", IN of "9.24 Row and Array
-- Comparisons" and `%` of "9.3 Mathematical Functions and Operators".
use Rattle.std.specs.Prelude.{ℕ, ℤ, Bool, true, List, [], ◌∷◌}
use Rattle.filter_tree.specs.declared.tri.Tri.{Tri}
use Rattle.filter_tree.specs.declared.tri.Tri.TheVariants.{True, False, Null}
use Rattle.filter_tree.specs.declared.filter.Op.{Op}
use Rattle.filter_tree.specs.declared.filter.Op.TheVariants.{Eq, Ne, Lt, Le, Gt, Ge}
use Rattle.filter_tree.specs.declared.filter.Term.{Term}
use Rattle.filter_tree.specs.declared.filter.Term.TheVariants.{Col}
use Rattle.filter_tree.specs.declared.filter.Test.{Test}
use Rattle.filter_tree.specs.Datum.{Constant, Number, Truth, Datum, Missing, Known, value_at}
use Rattle.filter_tree.specs.Compare.{compare_known}
use Rattle.filter_tree.specs.Lists.{column_of}
use Rattle.filter_tree.specs.Logic.{and_of, or_of, not_of, is_of, tri_of}
use Rattle.filter_tree.specs.Expr.{Expr, term_value, is_missing}
use Rattle.filter_tree.specs.Expr as e
use Rattle.sql_reader.specs.Ascending.{ascending}
use Rattle.sql_reader.specs.Operands.{Forms}

-- an expression as it is written
pub data Written : Type 0 where
  Fixed : Bool → Written
  Column : ℕ → Written
  Compared : Term → Op → Constant → Written
  ComparedFrom : Constant → Op → Term → Written
  Among : Term → Constant → List Constant → Written
  Between : Term → ℤ → ℤ → Written
  Distinct : Term → Constant → Written
  IsNull : Term → Written
  Is : Test → Written → Written
  Negated : Written → Written
  And : Written → Written → Written
  Or : Written → Written → Written

-- ---- its value on a row

-- the comparison of two values, which is null if one of them is
abbrev pub compare_values : Op → Datum → Datum → Tri
compare_values op Missing right = Null
compare_values op left Missing = Null
compare_values op (Known left) (Known right) = tri_of (compare_known op left right)

-- IN is the OR of the equalities, of which there is at least one
abbrev pub among_values : Datum → Constant → List Constant → Tri
among_values value first [] = compare_values Eq value (Known first)
among_values value first (next ∷ others) =
    or_of (compare_values Eq value (Known first)) (among_values value next others)

-- BETWEEN is `>=` the lower bound AND `<=` the upper one
abbrev pub between_values : Datum → ℤ → ℤ → Tri
between_values value low high =
    and_of (compare_values Ge value (Known (Number low))) (compare_values Le value (Known (Number high)))

-- IS DISTINCT FROM a constant is true for null, and otherwise it is `<>`
abbrev pub distinct_values : Datum → Constant → Tri
distinct_values Missing constant = True
distinct_values (Known value) constant = compare_values Ne (Known value) (Known constant)

-- the value of a boolean column; it has only null and truth values
abbrev pub truth_value : Datum → Tri
truth_value Missing = Null
truth_value (Known (Truth truth)) = tri_of truth
truth_value (Known other) = False

abbrev pub written_meaning : Written → List Datum → Tri
written_meaning (Fixed truth) row = tri_of truth
written_meaning (Column column) row = truth_value (value_at row column)
written_meaning (Compared term op constant) row = compare_values op (term_value term row) (Known constant)
written_meaning (ComparedFrom constant op term) row = compare_values op (Known constant) (term_value term row)
written_meaning (Among term first others) row = among_values (term_value term row) first others
written_meaning (Between term low high) row = between_values (term_value term row) low high
written_meaning (Distinct term constant) row = distinct_values (term_value term row) constant
written_meaning (IsNull term) row = is_missing (term_value term row)
written_meaning (Is test part) row = is_of test (written_meaning part row)
written_meaning (Negated part) row = not_of (written_meaning part row)
written_meaning (And left right) row = and_of (written_meaning left row) (written_meaning right row)
written_meaning (Or left right) row = or_of (written_meaning left row) (written_meaning right row)

-- ---- its filter tree

-- a boolean column is compared with TRUE
abbrev pub held_expr : ℕ → Expr
held_expr column = e.Atom (e.Cmp (Col column) Eq (Truth true))

abbrev pub compared_expr : Term → Op → Constant → Expr
compared_expr term op constant = e.Atom (e.Cmp term op constant)

-- the comparison with its sides swapped
abbrev pub turned : Op → Op
turned Eq = Eq
turned Ne = Ne
turned Lt = Gt
turned Le = Ge
turned Gt = Lt
turned Ge = Le

-- a comparison with the literal on the left is turned around
abbrev pub compared_from_expr : Constant → Op → Term → Expr
compared_from_expr constant op term = e.Atom (e.Cmp term (turned op) constant)

-- a list in ascending order, with each constant once
abbrev pub among_expr : Term → Constant → List Constant → Expr
among_expr term first others = e.Atom (e.In term (ascending (first ∷ others)))

abbrev pub between_expr : Term → ℤ → ℤ → Expr
between_expr term low high = e.Atom (e.Between term low high)

abbrev pub distinct_expr : Term → Constant → Expr
distinct_expr term constant = e.Atom (e.Distinct term constant)

-- a remainder is null if its column is null
abbrev pub lacking_expr : Term → Expr
lacking_expr term = e.Atom (e.IsNull (column_of term))

abbrev pub filter_of : Written → Expr
filter_of (Fixed truth) = e.Const truth
filter_of (Column column) = held_expr column
filter_of (Compared term op constant) = compared_expr term op constant
filter_of (ComparedFrom constant op term) = compared_from_expr constant op term
filter_of (Among term first others) = among_expr term first others
filter_of (Between term low high) = between_expr term low high
filter_of (Distinct term constant) = distinct_expr term constant
filter_of (IsNull term) = lacking_expr term
filter_of (Is test part) = e.Is test (filter_of part)
filter_of (Negated part) = e.Not (filter_of part)
filter_of (And left right) = e.And (filter_of left) (filter_of right)
filter_of (Or left right) = e.Or (filter_of left) (filter_of right)

-- ---- the grammar read as expressions as they are written, and as filter trees

abbrev pub as_written : Forms Written
as_written = record {
  known = Fixed;
  held = Column;
  compared = Compared;
  compared_from = ComparedFrom;
  among =
      Among;
  between = Between;
  distinct = Distinct;
  lacking = IsNull;
  asked = Is;
  negated = Negated;
  both =
      And;
  either = Or;
  tree = filter_of;
}

abbrev pub as_filter : Forms Expr
as_filter = record {
  known = e.Const;
  held = held_expr;
  compared = compared_expr;
  compared_from =
      compared_from_expr;
  among = among_expr;
  between = between_expr;
  distinct = distinct_expr;
  lacking =
      lacking_expr;
  asked = e.Is;
  negated = e.Not;
  both = e.And;
  either = e.Or;
  tree = λ filter. filter;
}

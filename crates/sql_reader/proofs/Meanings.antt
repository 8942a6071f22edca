-- An expression means as a filter tree what it means as it is written.
use Rattle.std.proofs.Common.{◌≡◌, ℕ, ℤ, Bool, true, false, ◌||◌, List, [], ◌∷◌, refl, ap, sym, ◌∙◌}
use Rattle.std.specs.Prelude.{not}
use Rattle.std.specs.Cmp.{bool_eq_equiv}
use Rattle.std.specs.List.{list_any}
use Rattle.std.specs.Str.{bytes_eq}
use Rattle.std.proofs.lemmas.Cmp.{int_eq_equiv}
use Rattle.std.proofs.lemmas.Bool.Decides.{same_from_decides}
use Rattle.std.proofs.lemmas.Slice.Eq.{bytes_eq-Decides}
use Rattle.filter_tree.specs.declared.filter.Op.{Op}
use Rattle.filter_tree.specs.declared.filter.Op.TheVariants.{Eq, Ne, Lt, Le, Gt, Ge}
use Rattle.filter_tree.specs.declared.tri.Tri.TheVariants.{Null}
use Rattle.filter_tree.specs.declared.filter.Term.{Term}
use Rattle.filter_tree.specs.declared.filter.Term.TheVariants.{Col, Mod}
use Rattle.filter_tree.specs.Datum.{Constant, Number, Truth, Bytes, Datum, Missing, Known, value_at}
use Rattle.filter_tree.specs.Compare.{compare_of, compare_known, equals, among_of, between_of, distinct_of}
use Rattle.filter_tree.specs.Lists.{column_of}
use Rattle.filter_tree.specs.Logic.{or_of, tri_of}
use Rattle.filter_tree.specs.Expr.{term_value, remainder_of, is_missing, meaning}
use Rattle.sql_reader.specs.Ascending.{ascending}
use Rattle.sql_reader.specs.Written.{Written, Fixed, Column, Compared, ComparedFrom, Among, Between, Distinct, IsNull, Is, Negated, And, Or, compare_values, among_values, between_values, distinct_values, truth_value, turned, as_written, as_filter, filter_of, written_meaning}
use Rattle.sql_reader.proofs.AscendingLemmas.{any_ascending}
use Rattle.sql_reader.proofs.Carrying.{Carries}
use Rattle.filter_tree.proofs.Tests.{or_false}

pub filters_carry : Carries as_written as_filter filter_of
filters_carry = record {
  known = λ truth. refl;
  held = λ column. refl;
  compared = λ term op constant. refl;
  compared_from = λ constant op term. refl;
  among = λ term first others. refl;
  between = λ term low high. refl;
  distinct = λ term constant. refl;
  lacking = λ term. refl;
  asked = λ test s. refl;
  negated = λ s. refl;
  both = λ left right. refl;
  either = λ left right. refl;
  tree = λ s. refl;
}

compared-same : (op : Op) (value : Datum) (constant : Constant)
    → compare_of op value constant ≡ compare_values op value (Known constant)
compared-same op Missing constant = refl
compared-same op (Known value) constant = refl

held-same : (value : Datum) → compare_of Eq value (Truth true) ≡ truth_value value
held-same Missing = refl
held-same (Known (Number number)) = refl
held-same (Known (Truth true)) = refl
held-same (Known (Truth false)) = refl
held-same (Known (Bytes text)) = refl

missing-same : (term : Term) (row : List Datum)
    → is_missing (value_at row (column_of term)) ≡ is_missing (term_value term row)
missing-same (Col column) row = refl
missing-same (Mod column divisor) row = of_remainder (value_at row column)
  where
    of_remainder : (value : Datum) → is_missing value ≡ is_missing (remainder_of value divisor)
    of_remainder Missing = refl
    of_remainder (Known (Number number)) = refl
    of_remainder (Known (Truth known)) = refl
    of_remainder (Known (Bytes text)) = refl

-- ---- a comparison with its sides swapped

bytes_eq-symm : (s t : List ℕ) → bytes_eq s t ≡ bytes_eq t s
bytes_eq-symm s t =
    let there = bytes_eq-Decides t s in
    same_from_decides (bytes_eq s t) (bytes_eq t s) (bytes_eq-Decides s t) (λ e. sym (there.0 e), λ e. there.1 (sym e))

turned-same : (op : Op) (left right : Constant) → compare_known (turned op) left right ≡ compare_known op right left
turned-same Eq (Number m) (Number n) = int_eq_equiv.symm m n
turned-same Ne (Number m) (Number n) = ap not (int_eq_equiv.symm m n)
turned-same Lt (Number m) (Number n) = refl
turned-same Le (Number m) (Number n) = refl
turned-same Gt (Number m) (Number n) = refl
turned-same Ge (Number m) (Number n) = refl
turned-same Eq (Truth p) (Truth q) = bool_eq_equiv.symm p q
turned-same Ne (Truth p) (Truth q) = ap not (bool_eq_equiv.symm p q)
turned-same Lt (Truth p) (Truth q) = refl
turned-same Le (Truth p) (Truth q) = refl
turned-same Gt (Truth p) (Truth q) = refl
turned-same Ge (Truth p) (Truth q) = refl
turned-same Eq (Bytes s) (Bytes t) = bytes_eq-symm s t
turned-same Ne (Bytes s) (Bytes t) = ap not (bytes_eq-symm s t)
turned-same Lt (Bytes s) (Bytes t) = refl
turned-same Le (Bytes s) (Bytes t) = refl
turned-same Gt (Bytes s) (Bytes t) = refl
turned-same Ge (Bytes s) (Bytes t) = refl
turned-same op (Number m) (Truth q) = refl
turned-same op (Number m) (Bytes t) = refl
turned-same op (Truth p) (Number n) = refl
turned-same op (Truth p) (Bytes t) = refl
turned-same op (Bytes s) (Number n) = refl
turned-same op (Bytes s) (Truth q) = refl

compared_from-same : (op : Op) (value : Datum) (constant : Constant)
    → compare_of (turned op) value constant ≡ compare_values op (Known constant) value
compared_from-same op Missing constant = refl
compared_from-same op (Known value) constant = ap tri_of (turned-same op value constant)

-- ---- IN, BETWEEN and IS DISTINCT FROM

or_of_known : (p q : Bool) → tri_of (p || q) ≡ or_of (tri_of p) (tri_of q)
or_of_known true true = refl
or_of_known true false = refl
or_of_known false true = refl
or_of_known false false = refl

any-among : (value first : Constant) (others : List Constant)
    → tri_of (list_any (equals (Known value)) (first ∷ others)) ≡ among_values (Known value) first others
any-among value first [] = ap tri_of (or_false (compare_known Eq value first))
any-among value first (next ∷ others) =
    or_of_known (compare_known Eq value first) (list_any (equals (Known value)) (next ∷ others))
    ∙ ap (or_of (tri_of (compare_known Eq value first))) (any-among value next others)

missing-among : (first : Constant) (others : List Constant) → Null ≡ among_values Missing first others
missing-among first [] = refl
missing-among first (next ∷ others) = ap (or_of Null) (missing-among next others)

among-same : (value : Datum) (first : Constant) (others : List Constant)
    → among_of value (ascending (first ∷ others)) ≡ among_values value first others
among-same Missing first others = missing-among first others
among-same (Known value) first others = ap tri_of (any_ascending (equals (Known value)) (first ∷ others))
    ∙ any-among value first others

between-same : (value : Datum) (low high : ℤ) → between_of value low high ≡ between_values value low high
between-same Missing low high = refl
between-same (Known value) low high = refl

distinct-same : (value : Datum) (constant : Constant) → distinct_of value constant ≡ distinct_values value constant
distinct-same Missing constant = refl
distinct-same (Known value) constant = refl

-- the tree of an expression means what the expression means
pub meaning-filter_of : (expression : Written) (row : List Datum)
    → meaning (filter_of expression) row ≡ written_meaning expression row
meaning-filter_of (Fixed truth) row = refl
meaning-filter_of (Column column) row = held-same (value_at row column)
meaning-filter_of (Compared term op constant) row = compared-same op (term_value term row) constant
meaning-filter_of (ComparedFrom constant op term) row = compared_from-same op (term_value term row) constant
meaning-filter_of (Among term first others) row = among-same (term_value term row) first others
meaning-filter_of (Between term low high) row = between-same (term_value term row) low high
meaning-filter_of (Distinct term constant) row = distinct-same (term_value term row) constant
meaning-filter_of (IsNull term) row = missing-same term row
meaning-filter_of (Is test part) row = rw (meaning-filter_of part row) refl
meaning-filter_of (Negated part) row = rw (meaning-filter_of part row) refl
meaning-filter_of (And left right) row = rw (meaning-filter_of left row, meaning-filter_of right row) refl
meaning-filter_of (Or left right) row = rw (meaning-filter_of left row, meaning-filter_of right row) refl

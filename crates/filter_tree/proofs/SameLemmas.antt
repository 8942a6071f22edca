-- The tests for sameness hold for equal values only, and for each value with itself.
use Rattle.std.proofs.Common.{◌≡◌, ℕ, ◌+◌, ◌<◌, ◌≤◌, true, ◌&&◌, List, [], ◌∷◌, length, refl, sym, ap, subst, arith, drop, add-one}
use Rattle.std.specs.Prelude.{nat_eq}
use Rattle.std.proofs.lemmas.Option.{unwrap_or-slice_get}
use Rattle.std.proofs.Math.Seq.{drop-cons}
use Rattle.std.proofs.Math.ListN.{drop_of_length-le}
use Rattle.std.specs.Ordering.{int_eq}
use Rattle.std.specs.Cmp.{unsigned_Decides, signed_Decides, booleans_Decides}
use Rattle.std.proofs.lemmas.Slice.Eq.{bytes_eq-Decides}
use Rattle.filter_tree.specs.Datum.{Constant, Number, Truth, Bytes, Datum, Missing, Known, value_at}
use Rattle.filter_tree.specs.Expr.{AtomOf, Cmp, IsNull, In, Between, Distinct}
use Rattle.filter_tree.specs.Same.{same_constant, same_constants, same_datum, same_from, same_row, same_term, same_op, same_atom}
use Rattle.filter_tree.specs.declared.filter.Term.{Term}
use Rattle.filter_tree.specs.declared.filter.Term.TheVariants.{Col, Mod}
use Rattle.filter_tree.specs.declared.filter.Op.{Op}
use Rattle.filter_tree.specs.declared.filter.Op.TheVariants.{Eq, Ne, Lt, Le, Gt, Ge}
use Rattle.filter_tree.proofs.Tests.{both_true}

-- ---- equal from the same

same_constant_is : (k l : Constant) → same_constant k l ≡ true → k ≡ l
same_constant_is (Number m) (Number n) h = ap Number ((signed_Decides m n).0 h)
same_constant_is (Truth p) (Truth q) h = ap Truth ((booleans_Decides p q).0 h)
same_constant_is (Bytes s) (Bytes t) h = ap Bytes ((bytes_eq-Decides s t).0 h)
same_constant_is k l h = absurd cc

same_constants_are : (ks ls : List Constant) → same_constants ks ls ≡ true → ks ≡ ls
same_constants_are [] [] h = refl
same_constants_are (k ∷ ks) (l ∷ ls) h =
    let both : (same_constant k l ≡ true) × (same_constants ks ls ≡ true) = both_true _ _ h in
    let here : k ≡ l = same_constant_is k l both.0 in
    let later : ks ≡ ls = same_constants_are ks ls both.1 in
    cc
same_constants_are ks ls h = absurd cc

same_datum_is : (v w : Datum) → same_datum v w ≡ true → v ≡ w
same_datum_is Missing Missing h = refl
same_datum_is (Known k) (Known l) h = ap Known (same_constant_is k l h)
same_datum_is v w h = absurd cc

pub same_term_is : (s t : Term) → same_term s t ≡ true → s ≡ t
same_term_is (Col c) (Col d) h = ap Col ((unsigned_Decides c d).0 h)
same_term_is (Mod c m) (Mod d n) h =
    let both : (nat_eq c d ≡ true) × (int_eq m n ≡ true) = both_true _ _ h in
    let columns : c ≡ d = (unsigned_Decides c d).0 both.0 in
    let divisors : m ≡ n = (signed_Decides m n).0 both.1 in
    cc
same_term_is s t h = absurd cc

same_op_is : (op other : Op) → same_op op other ≡ true → op ≡ other
same_op_is Eq Eq h = refl
same_op_is Ne Ne h = refl
same_op_is Lt Lt h = refl
same_op_is Le Le h = refl
same_op_is Gt Gt h = refl
same_op_is Ge Ge h = refl
same_op_is op other h = absurd cc

pub same_atom_is : (c d : AtomOf) → same_atom c d ≡ true → c ≡ d
same_atom_is (Cmp s op k) (Cmp t other l) h =
    let both : (same_term s t ≡ true) × ((same_op op other && same_constant k l) ≡ true) = both_true _ _ h in
    let rest : (same_op op other ≡ true) × (same_constant k l ≡ true) = both_true _ _ both.1 in
    let terms : s ≡ t = same_term_is s t both.0 in
    let ops : op ≡ other = same_op_is op other rest.0 in
    let constants : k ≡ l = same_constant_is k l rest.1 in
    cc
same_atom_is (IsNull c) (IsNull d) h = ap IsNull ((unsigned_Decides c d).0 h)
same_atom_is (In s ks) (In t ls) h =
    let both : (same_term s t ≡ true) × (same_constants ks ls ≡ true) = both_true _ _ h in
    let terms : s ≡ t = same_term_is s t both.0 in
    let constants : ks ≡ ls = same_constants_are ks ls both.1 in
    cc
same_atom_is (Between s low high) (Between t low' high') h =
    let both : (same_term s t ≡ true) × ((int_eq low low' && int_eq high high') ≡ true) = both_true _ _ h in
    let rest : (int_eq low low' ≡ true) × (int_eq high high' ≡ true) = both_true _ _ both.1 in
    let terms : s ≡ t = same_term_is s t both.0 in
    let lows : low ≡ low' = (signed_Decides low low').0 rest.0 in
    let highs : high ≡ high' = (signed_Decides high high').0 rest.1 in
    cc
same_atom_is (Distinct s k) (Distinct t l) h =
    let both : (same_term s t ≡ true) × (same_constant k l ≡ true) = both_true _ _ h in
    let terms : s ≡ t = same_term_is s t both.0 in
    let constants : k ≡ l = same_constant_is k l both.1 in
    cc
same_atom_is c d h = absurd cc

-- ---- the same as itself

same_constant_self : (k : Constant) → same_constant k k ≡ true
same_constant_self (Number m) = (signed_Decides m m).1 refl
same_constant_self (Truth p) = (booleans_Decides p p).1 refl
same_constant_self (Bytes s) = (bytes_eq-Decides s s).1 refl

same_constants_self : (ks : List Constant) → same_constants ks ks ≡ true
same_constants_self [] = refl
same_constants_self (k ∷ ks) =
    let here : same_constant k k ≡ true = same_constant_self k in
    let later : same_constants ks ks ≡ true = same_constants_self ks in
    rw (here, later) refl

same_datum_self : (v : Datum) → same_datum v v ≡ true
same_datum_self Missing = refl
same_datum_self (Known k) = same_constant_self k

same_term_self : (t : Term) → same_term t t ≡ true
same_term_self (Col c) = (unsigned_Decides c c).1 refl
same_term_self (Mod c m) =
    let columns : nat_eq c c ≡ true = (unsigned_Decides c c).1 refl in
    let divisors : int_eq m m ≡ true = (signed_Decides m m).1 refl in
    rw (columns, divisors) refl

pub same_term_of_equal : (s t : Term) → s ≡ t → same_term s t ≡ true
same_term_of_equal s t e = subst (λ x. same_term s x ≡ true) e (same_term_self s)

same_op_self : (op : Op) → same_op op op ≡ true
same_op_self Eq = refl
same_op_self Ne = refl
same_op_self Lt = refl
same_op_self Le = refl
same_op_self Gt = refl
same_op_self Ge = refl

same_atom_self : (c : AtomOf) → same_atom c c ≡ true
same_atom_self (Cmp t op k) =
    let terms : same_term t t ≡ true = same_term_self t in
    let ops : same_op op op ≡ true = same_op_self op in
    let constants : same_constant k k ≡ true = same_constant_self k in
    rw (terms, ops, constants) refl
same_atom_self (IsNull c) = (unsigned_Decides c c).1 refl
same_atom_self (In t ks) =
    let terms : same_term t t ≡ true = same_term_self t in
    let constants : same_constants ks ks ≡ true = same_constants_self ks in
    rw (terms, constants) refl
same_atom_self (Between t low high) =
    let terms : same_term t t ≡ true = same_term_self t in
    let lows : int_eq low low ≡ true = (signed_Decides low low).1 refl in
    let highs : int_eq high high ≡ true = (signed_Decides high high).1 refl in
    rw (terms, lows, highs) refl
same_atom_self (Distinct t k) =
    let terms : same_term t t ≡ true = same_term_self t in
    let constants : same_constant k k ≡ true = same_constant_self k in
    rw (terms, constants) refl

pub same_atom_of_equal : (c d : AtomOf) → c ≡ d → same_atom c d ≡ true
same_atom_of_equal c d e = subst (λ x. same_atom c x ≡ true) e (same_atom_self c)

-- ---- rows

-- the values from a column on, if there is one
drop_from : (row : List Datum) (column : ℕ) → column < length row
    → drop column row ≡ value_at row column ∷ drop (column + 1) row
drop_from row column h = rw (add-one, unwrap_or-slice_get row column Missing) (drop-cons row column Missing h)

same_from_is : (row : List Datum) (column : ℕ) (values : List Datum) → column + length values ≡ length row
    → same_from column values row ≡ true → values ≡ drop column row
same_from_is row column [] h same = let past : length row ≤ column = omega arith in sym (drop_of_length-le row past)
same_from_is row column (value ∷ values) h same =
    let both : (same_datum value (value_at row column) ≡ true) × (same_from (column + 1) values row ≡ true) =
    both_true _ _ same in
    let inside : column < length row = omega arith in
    let width : column + 1 + length values ≡ length row = omega arith in
    let here : value ≡ value_at row column = same_datum_is _ _ both.0 in
    let later : values ≡ drop (column + 1) row = same_from_is row (column + 1) values width both.1 in
    let split = drop_from row column inside in
    cc

same_from_self : (row : List Datum) (column : ℕ) (values : List Datum) → column + length values ≡ length row
    → values ≡ drop column row → same_from column values row ≡ true
same_from_self row column [] h e = refl
same_from_self row column (value ∷ values) h e =
    let inside : column < length row = omega arith in
    let width : column + 1 + length values ≡ length row = omega arith in
    let split = drop_from row column inside in
    let here : value ≡ value_at row column = cc in
    let later : values ≡ drop (column + 1) row = cc in
    let same : same_datum value (value_at row column) ≡ true =
    subst (λ v. same_datum value v ≡ true) here (same_datum_self value) in
    let rest = same_from_self row (column + 1) values width later in
    rw (same, rest) refl

pub equal_from_same_row : (one other : List Datum) → same_row one other ≡ true → one ≡ other
equal_from_same_row one other h =
    let both : (nat_eq (length one) (length other) ≡ true) × (same_from 0 one other ≡ true) = both_true _ _ h in
    let width : length one ≡ length other = (unsigned_Decides _ _).0 both.0 in
    same_from_is other 0 one (omega arith) both.1

pub same_row_of_equal : (one other : List Datum) → one ≡ other → same_row one other ≡ true
same_row_of_equal one other e =
    let width : nat_eq (length one) (length other) ≡ true = (unsigned_Decides _ _).1 (ap length e) in
    let row : same_from 0 one other ≡ true = same_from_self other 0 one (omega (arith, ap length e)) e in
    rw width row

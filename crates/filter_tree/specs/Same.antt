-- Tests that two values, two terms or two atoms are the same.
use Rattle.std.specs.Prelude.{ℕ, ◌+◌, Bool, true, false, ◌&&◌, nat_eq, List, [], ◌∷◌, length}
use Rattle.std.specs.Ordering.{int_eq}
use Rattle.std.specs.Bool.{beq}
use Rattle.std.specs.Str.{bytes_eq}
use Rattle.filter_tree.specs.Datum.{Constant, Number, Truth, Bytes, Datum, Missing, Known, value_at}
use Rattle.filter_tree.specs.Expr.{AtomOf, Cmp, IsNull, In, Between, Distinct}
use Rattle.filter_tree.specs.declared.filter.Term.{Term}
use Rattle.filter_tree.specs.declared.filter.Term.TheVariants.{Col, Mod}
use Rattle.filter_tree.specs.declared.filter.Op.{Op}
use Rattle.filter_tree.specs.declared.filter.Op.TheVariants.{Eq, Ne, Lt, Le, Gt, Ge}

abbrev pub same_constant : Constant → Constant → Bool
same_constant (Number m) (Number n) = int_eq m n
same_constant (Truth p) (Truth q) = beq p q
same_constant (Bytes s) (Bytes t) = bytes_eq s t
same_constant _ _ = false

-- whether the lists have the same constants in the same order
abbrev pub same_constants : List Constant → List Constant → Bool
same_constants [] [] = true
same_constants (k ∷ ks) (l ∷ ls) = same_constant k l && same_constants ks ls
same_constants _ _ = false

abbrev pub same_datum : Datum → Datum → Bool
same_datum Missing Missing = true
same_datum (Known k) (Known l) = same_constant k l
same_datum _ _ = false

-- whether a row has these values, the first of which is in this column
abbrev pub same_from : ℕ → List Datum → List Datum → Bool
same_from column [] row = true
same_from column (value ∷ values) row = same_datum value (value_at row column) && same_from (column + 1) values row

abbrev pub same_row : List Datum → List Datum → Bool
same_row one other = nat_eq (length one) (length other) && same_from 0 one other

abbrev pub same_term : Term → Term → Bool
same_term (Col c) (Col d) = nat_eq c d
same_term (Mod c m) (Mod d n) = nat_eq c d && int_eq m n
same_term _ _ = false

abbrev pub same_op : Op → Op → Bool
same_op Eq Eq = true
same_op Ne Ne = true
same_op Lt Lt = true
same_op Le Le = true
same_op Gt Gt = true
same_op Ge Ge = true
same_op _ _ = false

abbrev pub same_atom : AtomOf → AtomOf → Bool
same_atom (Cmp s op k) (Cmp t op' l) = same_term s t && (same_op op op' && same_constant k l)
same_atom (IsNull c) (IsNull d) = nat_eq c d
same_atom (In s ks) (In t ls) = same_term s t && same_constants ks ls
same_atom (Between s low high) (Between t low' high') = same_term s t && (int_eq low low' && int_eq high high')
same_atom (Distinct s k) (Distinct t l) = same_term s t && same_constant k l
same_atom _ _ = false

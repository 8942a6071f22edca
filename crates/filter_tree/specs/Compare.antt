-- Comparisons of a value with constants: the operators and predicates of "9.2 Comparison Functions and Operators", and
-- IN of "9.24 Row and Array Comparisons". All but IS DISTINCT FROM are null if the value is null.
use Rattle.std.specs.Prelude.{ℕ, ℤ, Bool, false, not, List, int_lt, int_le}
use Rattle.std.specs.List.{list_any}
use Rattle.std.specs.Ordering.{int_eq}
use Rattle.std.specs.Bool.{beq}
use Rattle.std.specs.Str.{bytes_eq}
use Rattle.filter_tree.specs.Datum.{Constant, Number, Truth, Bytes, Datum, Missing, Known}
use Rattle.filter_tree.specs.Logic.{and_of, tri_of}
use Rattle.filter_tree.specs.declared.tri.Tri.{Tri}
use Rattle.filter_tree.specs.declared.tri.Tri.TheVariants.{True, Null}
use Rattle.filter_tree.specs.declared.filter.Op.{Op}
use Rattle.filter_tree.specs.declared.filter.Op.TheVariants.{Eq, Ne, Lt, Le, Gt, Ge}

abbrev pub compare_numbers_of : Op → ℤ → ℤ → Bool
compare_numbers_of Eq m n = int_eq m n
compare_numbers_of Ne m n = not (int_eq m n)
compare_numbers_of Lt m n = int_lt m n
compare_numbers_of Le m n = int_le m n
compare_numbers_of Gt m n = int_lt n m
compare_numbers_of Ge m n = int_le n m

-- filters compare truth values by `=` and `<>` only
abbrev pub compare_truths_of : Op → Bool → Bool → Bool
compare_truths_of Eq p q = beq p q
compare_truths_of Ne p q = not (beq p q)
compare_truths_of _ p q = false

-- filters compare texts by `=` and `<>` only, byte by byte
abbrev pub compare_texts_of : Op → List ℕ → List ℕ → Bool
compare_texts_of Eq s t = bytes_eq s t
compare_texts_of Ne s t = not (bytes_eq s t)
compare_texts_of _ s t = false

-- the comparison of two constants, which never holds for constants of different types
abbrev pub compare_known : Op → Constant → Constant → Bool
compare_known op (Number m) (Number n) = compare_numbers_of op m n
compare_known op (Truth p) (Truth q) = compare_truths_of op p q
compare_known op (Bytes s) (Bytes t) = compare_texts_of op s t
compare_known op _ _ = false

-- a comparison with null is null
abbrev pub compare_of : Op → Datum → Constant → Tri
compare_of op Missing constant = Null
compare_of op (Known value) constant = tri_of (compare_known op value constant)

-- the value equals the constant; null equals no constant
abbrev pub equals : Datum → Constant → Bool
equals Missing constant = false
equals (Known value) constant = compare_known Eq value constant

-- `value IN (constants)`: whether it is one of them
abbrev pub among_of : Datum → List Constant → Tri
among_of Missing constants = Null
among_of (Known value) constants = tri_of (list_any (equals (Known value)) constants)

-- `value BETWEEN low AND high`, both ends included
abbrev pub between_of : Datum → ℤ → ℤ → Tri
between_of value low high = and_of (compare_of Ge value (Number low)) (compare_of Le value (Number high))

-- `value IS DISTINCT FROM constant`, which is true for null and is never null itself
abbrev pub distinct_of : Datum → Constant → Tri
distinct_of Missing constant = True
distinct_of (Known value) constant = tri_of (compare_known Ne value constant)

-- A row filter as SQL, with exactly the parentheses that it needs: PostgreSQL 15, "SQL Syntax", 4.1.2 Constants,
-- 4.1.6 Operator Precedence and 4.2 Value Expressions, with the operators of 9.2, 9.3 and 9.24.
use Rattle.std.specs.Prelude.{ℕ, suc, nat_lt, ℤ, pos, negsuc, Bool, true, false, List, [], ◌++◌, map, ◌==◌, if◌then◌else◌, Option, Some, None, slice_get, codes}
use Rattle.std.specs.Char.{digit_char}
use Rattle.std.specs.Int.Digits.{digits_of}
use Rattle.std.specs.List.{join_by}
use Rattle.filter_tree.specs.Datum.{Constant, Number, Truth, Bytes}
use Rattle.filter_tree.specs.Expr.{AtomOf, Cmp, IsNull, In, Between, Distinct, Expr, Const, Atom, Not, And, Or, Is}
use Rattle.filter_tree.specs.declared.filter.Op.{Op}
use Rattle.filter_tree.specs.declared.filter.Op.TheVariants.{Eq, Ne, Lt, Le, Gt, Ge}
use Rattle.filter_tree.specs.declared.filter.Term.{Term}
use Rattle.filter_tree.specs.declared.filter.Term.TheVariants.{Col, Mod}
use Rattle.filter_tree.specs.declared.filter.Test.{Test}
use Rattle.filter_tree.specs.declared.filter.Test.TheVariants.{True, False, Unknown}
use Rattle.filter_tree.specs.declared.table.Column.{Column}
use Rattle.sql_tokens.specs.Doubled.{in_quotes}
use Rattle.catalog_text.specs.declared.level.Level.{Level}
use Rattle.catalog_text.specs.declared.level.Level.TheVariants as level

-- ---- names, constants and words

-- a text, or nothing
abbrev pub text_if : Bool → List ℕ → List ℕ
text_if true text = text
text_if false text = []

-- the text of the value, if there is one
abbrev pub text_by : {A : Type 0} → (A → List ℕ) → Option A → List ℕ
text_by text None = []
text_by text (Some a) = text a

-- a name is always quoted
abbrev pub name_text : List ℕ → List ℕ
name_text name = in_quotes 34 name

-- the name of the column with this number
abbrev pub column_sql : List Column → ℕ → List ℕ
column_sql columns number = text_by (λ column. name_text column.name) (slice_get columns number)

-- a number in decimal digits, the highest first, with a minus sign if it is below 0
abbrev pub number_text : ℤ → List ℕ
number_text (pos n) = if n == 0 then codes "0" else map digit_char (digits_of 10 n)
number_text (negsuc n) = codes "-" ++ map digit_char (digits_of 10 (suc n))

abbrev pub truth_text : Bool → List ℕ
truth_text true = codes "TRUE"
truth_text false = codes "FALSE"

abbrev pub constant_text : Constant → List ℕ
constant_text (Number number) = number_text number
constant_text (Truth known) = truth_text known
constant_text (Bytes text) = in_quotes 39 text

abbrev pub term_text : List Column → Term → List ℕ
term_text columns (Col column) = column_sql columns column
term_text columns (Mod column divisor) = column_sql columns column ++ (codes " % " ++ number_text divisor)

abbrev pub op_text : Op → List ℕ
op_text Eq = codes " = "
op_text Ne = codes " <> "
op_text Lt = codes " < "
op_text Le = codes " <= "
op_text Gt = codes " > "
op_text Ge = codes " >= "

abbrev pub not_text : Bool → List ℕ
not_text negated = text_if negated (codes " NOT")

abbrev pub test_text : Test → List ℕ
test_text True = codes " TRUE"
test_text False = codes " FALSE"
test_text Unknown = codes " UNKNOWN"

-- ---- parentheses

-- how tightly a part binds: OR binds least tightly, then AND, NOT and the IS tests; comparisons and constants bind most
-- tightly
abbrev pub level_rank : Level → ℕ
level_rank level.Or = 0
level_rank level.And = 1
level_rank level.Not = 2
level_rank level.Test = 3
level_rank level.Operand = 4

abbrev pub is_below : Level → Level → Bool
is_below one other = nat_lt (level_rank one) (level_rank other)

-- a part of one level where another level is required: in parentheses, if it binds less tightly
abbrev pub at_level : Level → Level → List ℕ → List ℕ
at_level wanted own text =
    text_if (is_below own wanted) (codes "(") ++ (text ++ text_if (is_below own wanted) (codes ")"))

-- the part, or NOT of it
abbrev pub signed : Level → Bool → Level → List ℕ → List ℕ
signed wanted true own text = at_level wanted level.Not (codes "NOT " ++ at_level level.Not own text)
signed wanted false own text = at_level wanted own text

-- ---- filters

-- an atom where a part of this level is required, or NOT of it; IN, BETWEEN and the IS tests have NOT among their words
abbrev pub atom_text : List Column → Level → Bool → AtomOf → List ℕ
atom_text columns wanted negated (Cmp term op constant) =
    signed wanted negated level.Operand (term_text columns term ++ (op_text op ++ constant_text constant))
atom_text columns wanted negated (IsNull column) =
    at_level wanted level.Test (column_sql columns column ++ (codes " IS" ++ (not_text negated ++ codes " NULL")))
atom_text columns wanted negated (In term constants) =
    term_text columns term ++ (not_text negated ++ (codes " IN ("
    ++ (join_by constant_text (codes ", ") constants ++ codes ")")))
atom_text columns wanted negated (Between term low high) =
    term_text columns term ++ (not_text negated ++ (codes " BETWEEN "
    ++ (number_text low ++ (codes " AND " ++ number_text high))))
atom_text columns wanted negated (Distinct term constant) =
    at_level wanted level.Test (term_text columns term ++ (codes " IS" ++ (not_text negated
    ++ (codes " DISTINCT FROM " ++ constant_text constant))))

-- a filter where a part of this level is required, or NOT of it; AND and OR build to the left
abbrev pub expr_text : List Column → Level → Bool → Expr → List ℕ
expr_text columns wanted negated (Const known) = signed wanted negated level.Operand (truth_text known)
expr_text columns wanted negated (Atom atom) = atom_text columns wanted negated atom
expr_text columns wanted true (Not part) =
    at_level wanted level.Not (codes "NOT " ++ expr_text columns level.Not true part)
expr_text columns wanted false (Not part) = expr_text columns wanted true part
expr_text columns wanted negated (And left right) =
    signed wanted negated level.And (expr_text columns level.And false left ++ (codes " AND "
    ++ expr_text columns level.Not false right))
expr_text columns wanted negated (Or left right) =
    signed wanted negated level.Or (expr_text columns level.Or false left ++ (codes " OR "
    ++ expr_text columns level.And false right))
expr_text columns wanted negated (Is test part) =
    at_level wanted level.Test (expr_text columns level.Operand false part ++ (codes " IS" ++ (not_text negated
    ++ test_text test)))

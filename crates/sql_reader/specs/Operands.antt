-- What a part of an expression is once it was read, and which parts fit together: PostgreSQL 15, "4.2 Value
-- Expressions", of which filters ("31.3 Row Filters") here have only the comparisons of one column with a literal, "9.1
-- Logical Operators", "9.2 Comparison Functions and Operators" and `%` of "9.3 Mathematical Functions and Operators".
use Rattle.std.specs.Prelude.{ℕ, ℤ, pos, Bool, true, false, if◌then◌else◌, List, Option, Some, None, Ok, Err}
use Rattle.std.specs.Ordering.{int_eq}
use Rattle.sql_tokens.specs.declared.kinds.Operator.TheVariants as o
use Rattle.filter_tree.specs.declared.table.ColType.{ColType}
use Rattle.filter_tree.specs.declared.table.ColType.TheVariants.{SmallInt, Integer, BigInt, Boolean, Text}
use Rattle.filter_tree.specs.declared.filter.Op.{Op}
use Rattle.filter_tree.specs.declared.filter.Op.TheVariants.{Eq, Ne, Lt, Le, Gt, Ge}
use Rattle.filter_tree.specs.declared.filter.Term.{Term}
use Rattle.filter_tree.specs.declared.filter.Term.TheVariants.{Col, Mod}
use Rattle.filter_tree.specs.declared.filter.Test.{Test}
use Rattle.filter_tree.specs.declared.filter.Test.TheVariants.{Unknown}
use Rattle.filter_tree.specs.Datum.{Constant, Number, Truth, Bytes}
use Rattle.filter_tree.specs.Expr.{Expr}
use Rattle.sql_reader.specs.declared.item.Item.{Item}
use Rattle.sql_reader.specs.declared.item.Item.TheVariants as i
use Rattle.sql_reader.specs.declared.column.FoundColumn.{FoundColumn}
use Rattle.sql_reader.specs.declared.truth_test.TestedValue.{TestedValue}
use Rattle.sql_reader.specs.declared.truth_test.TestedValue.TheVariants as a
use Rattle.sql_reader.specs.declared.truth_test.TruthTest.{TruthTest}
use Rattle.sql_reader.specs.declared.error.Omitted.TheVariants as l
use Rattle.sql_reader.specs.Reading.{Verdict, fault}
use Rattle.sql_reader.specs.ErrorKinds as w
use Rattle.filter_tree.specs.Shape.{expr_view}
use Rattle.filter_tree.specs.Values.{constant_view}
use Rattle.sql_reader.specs.declared.operand.Operand.{Operand}
use Rattle.sql_reader.specs.declared.operand.Operand.TheVariants as p
use Rattle.sql_reader.specs.declared.operand.Part.{Part}

-- What the forms of an expression make: trees, or their meaning.
pub record Forms (S : Type 0) : Type 0 where
  -- TRUE or FALSE
  pub known : Bool → S
  -- a boolean column
  pub held : ℕ → S
  -- a column or a remainder compared with a literal, and a literal with a column or a remainder
  pub compared : Term → Op → Constant → S
  pub compared_from : Constant → Op → Term → S
  -- a column or a remainder IN a list of literals, which has a first literal and perhaps others
  pub among : Term → Constant → List Constant → S
  -- BETWEEN two numbers, and IS DISTINCT FROM a literal
  pub between : Term → ℤ → ℤ → S
  pub distinct : Term → Constant → S
  -- IS NULL of a column or a remainder
  pub lacking : Term → S
  -- IS TRUE, IS FALSE and IS UNKNOWN
  pub asked : Test → S → S
  pub negated : S → S
  pub both : S → S → S
  pub either : S → S → S
  -- the filter tree of what they make, whose size is limited
  pub tree : S → Expr

-- a part of an expression: a column or a remainder of one with the column's type, a literal with the place of its
-- token, which is that of the digits after a minus, or a boolean expression that is neither a column nor a literal
pub data OperandOf (S : Type 0) : Type 0 where
  OfTerm : Term → ColType → OperandOf S
  OfLiteral : ℕ → Constant → OperandOf S
  OfFormula : S → OperandOf S

-- with the place of its first token
pub record ParsedPart (S : Type 0) : Type 0 where
  pub place : ℕ
  pub operand : OperandOf S

abbrev pub part : {S : Type 0} → ℕ → OperandOf S → ParsedPart S
part place operand = record { place = place; operand = operand }

abbrev pub verdict_map : {A B : Type 0} → (A → B) → Verdict A → Verdict B
verdict_map f (Ok a) = Ok (f a)
verdict_map f (Err fault) = Err fault

abbrev pub verdict_then : {A B : Type 0} → Verdict A → (A → Verdict B) → Verdict B
verdict_then (Ok a) more = more a
verdict_then (Err fault) more = Err fault

-- ---- boolean parts

-- what a boolean part makes
abbrev pub truth : {S : Type 0} → Forms S → OperandOf S → Option S
truth forms (OfTerm (Col column) Boolean) = Some (forms.held column)
truth forms (OfLiteral place (Truth known)) = Some (forms.known known)
truth forms (OfFormula s) = Some s
truth forms _ = None

abbrev pub true_or_clash : {A : Type 0} → ℕ → Option A → Verdict A
true_or_clash place (Some a) = Ok a
true_or_clash place None = Err (fault place w.TypeClash)

-- a filter is required
unfoldable pub wanted : {S : Type 0} → Forms S → ParsedPart S → Verdict S
wanted forms part = true_or_clash part.place (truth forms part.operand)

-- NOT of a part, at the place of the NOT
unfoldable pub negated : {S : Type 0} → Forms S → ℕ → ParsedPart S → Verdict (ParsedPart S)
negated forms place right = verdict_map (λ s. part place (OfFormula (forms.negated s))) (wanted forms right)

-- AND or OR of a filter and a part, at the place of the filter
unfoldable pub joined : {S : Type 0} → Forms S → (S → S → S) → ℕ → S → ParsedPart S → Verdict (ParsedPart S)
joined forms join place left right = verdict_map (λ s. part place (OfFormula (join left s))) (wanted forms right)

-- ---- remainders

-- the column whose remainder may be taken
abbrev pub dividend : {S : Type 0} → OperandOf S → Option FoundColumn
dividend (OfTerm (Col column) SmallInt) = Some (record { number = column; kind = SmallInt })
dividend (OfTerm (Col column) Integer) = Some (record { number = column; kind = Integer })
dividend (OfTerm (Col column) BigInt) = Some (record { number = column; kind = BigInt })
dividend _ = None

abbrev pub divided : {S : Type 0} → ℕ → ℕ → FoundColumn → ℤ → Verdict (ParsedPart S)
divided digits first column divisor =
    if int_eq divisor (pos 0) then Err (fault digits w.ZeroDivisor)
    else Ok (part first (OfTerm (Mod column.number divisor) column.kind))

-- an integer column by a number that is not 0; `place` is that of `%`
unfoldable pub remainder : {S : Type 0} → ℕ → ℕ → Option FoundColumn → OperandOf S → Verdict (ParsedPart S)
remainder place first (Some column) (OfLiteral digits (Number divisor)) = divided digits first column divisor
remainder place first _ _ = Err (fault place w.TypeClash)

-- ---- comparisons

abbrev pub comparison_by : Option Item → Option Op
comparison_by (Some (i.Operator o.Equal)) = Some Eq
comparison_by (Some (i.Operator o.NotEqual)) = Some Ne
comparison_by (Some (i.Operator o.Less)) = Some Lt
comparison_by (Some (i.Operator o.LessOrEqual)) = Some Le
comparison_by (Some (i.Operator o.Greater)) = Some Gt
comparison_by (Some (i.Operator o.GreaterOrEqual)) = Some Ge
comparison_by _ = None

-- texts and truth values are equal or not, but have no order here
abbrev pub equality : ℕ → Op → Verdict (Unit {0})
equality place Eq = Ok tt
equality place Ne = Ok tt
equality place op = Err (fault place (w.LeftOut l.Order))

-- a column of this type, or a remainder of one, is compared with a literal of its kind; a quoted literal compared with
-- a number or a truth value is not supported
abbrev pub comparable : ℕ → ColType → Op → Constant → Verdict (Unit {0})
comparable place Text op (Bytes text) = equality place op
comparable place Boolean op (Truth known) = equality place op
comparable place SmallInt op (Number number) = Ok tt
comparable place Integer op (Number number) = Ok tt
comparable place BigInt op (Number number) = Ok tt
comparable place kind op (Bytes text) = Err (fault place (w.LeftOut l.Literal))
comparable place kind op _ = Err (fault place w.TypeClash)

abbrev pub fitting : {S : Type 0} → Verdict (Unit {0}) → S → Verdict S
fitting (Ok fit) s = Ok s
fitting (Err fault) s = Err fault

-- `place` is that of the operator
unfoldable pub compared : {S : Type 0} → Forms S → ℕ → OperandOf S → Op → OperandOf S → Verdict S
compared forms place (OfTerm term kind) op (OfTerm other other_kind) = Err (fault place (w.LeftOut l.TwoColumns))
compared forms place (OfLiteral at constant) op (OfLiteral other_at other) = Err (fault place (w.LeftOut l.Constant))
compared forms place (OfTerm term kind) op (OfLiteral at constant) =
    fitting (comparable place kind op constant) (forms.compared term op constant)
compared forms place (OfLiteral at constant) op (OfTerm term kind) =
    fitting (comparable place kind op constant) (forms.compared_from constant op term)
compared forms place (OfLiteral at (Bytes text)) op (OfFormula s) = Err (fault place (w.LeftOut l.Literal))
compared forms place (OfFormula s) op (OfLiteral at (Bytes text)) = Err (fault place (w.LeftOut l.Literal))
compared forms place left op right = Err (fault place w.TypeClash)

abbrev pub compared_part : {S : Type 0} → Forms S → ℕ → ParsedPart S → Op → ParsedPart S → Verdict (ParsedPart S)
compared_part forms place left op right =
    verdict_map (λ s. part left.place (OfFormula s)) (compared forms place left.operand op right.operand)

-- ---- IS tests

abbrev pub truth_asked : {S : Type 0} → Forms S → ℕ → Test → Option S → Verdict S
truth_asked forms place test (Some s) = Ok (forms.asked test s)
truth_asked forms place test None = Err (fault place w.TypeClash)

-- the test of an operand; the word of the test is at this place. A number or a string is not tested, and IS NULL of a
-- boolean expression is IS UNKNOWN
abbrev pub answered : {S : Type 0} → Forms S → ℕ → TestedValue → OperandOf S → Verdict S
answered forms place asked (OfLiteral at (Number number)) = Err (fault place (w.LeftOut l.Constant))
answered forms place asked (OfLiteral at (Bytes text)) = Err (fault place (w.LeftOut l.Constant))
answered forms place a.Null (OfTerm term kind) = Ok (forms.lacking term)
answered forms place a.Null operand = truth_asked forms place Unknown (truth forms operand)
answered forms place (a.Truth test) operand = truth_asked forms place test (truth forms operand)

-- IS NOT negates the test
abbrev pub negated_if : {S : Type 0} → Forms S → Bool → S → S
negated_if forms true s = forms.negated s
negated_if forms false s = s

-- a part that is tested
unfoldable pub tested : {S : Type 0} → Forms S → TruthTest → ParsedPart S → Verdict (ParsedPart S)
tested forms truth_test asked_part =
    verdict_map (λ s. part asked_part.place (OfFormula (negated_if forms truth_test.is_negated s)))
    (answered forms truth_test.place truth_test.asked asked_part.operand)

-- ---- parts of the code

-- The view of an operand of the code as the data above.
abbrev pub operand_view : Operand → OperandOf Expr
operand_view (p.Term term kind) = OfTerm term kind
operand_view (p.Literal place literal) = OfLiteral place (constant_view literal)
operand_view (p.Formula filter) = OfFormula (expr_view filter)

abbrev pub part_view : Part → ParsedPart Expr
part_view part = record { place = part.place; operand = operand_view part.operand }

-- Which operands fit IN, BETWEEN and IS DISTINCT FROM: PostgreSQL 15, "9.2 Comparison Functions and Operators" and
-- "9.24 Row and Array Comparisons", of which filters ("31.3 Row Filters") here have only a column, or a remainder of
-- one, with literals.
use Rattle.std.specs.Prelude.{ℕ, ℤ, Bool, true, false, if◌then◌else◌, List, [], ◌∷◌, Option, Some, None, Ok, Err, nat_lt}
use Rattle.sql_tokens.specs.declared.kinds.Operator.TheVariants.{Minus}
use Rattle.filter_tree.specs.declared.table.ColType.{ColType}
use Rattle.filter_tree.specs.declared.table.ColType.TheVariants.{SmallInt, Integer, BigInt, Boolean, Text}
use Rattle.filter_tree.specs.declared.filter.Op.TheVariants.{Eq}
use Rattle.filter_tree.specs.Datum.{Constant, Number, Truth, Bytes}
use Rattle.sql_reader.specs.declared.word.Keyword.TheVariants as k
use Rattle.sql_reader.specs.declared.item.Item.{Item}
use Rattle.sql_reader.specs.declared.item.Item.TheVariants as i
use Rattle.sql_reader.specs.declared.membership.MembershipWord.{MembershipWord}
use Rattle.sql_reader.specs.declared.subject.Subject.{Subject}
use Rattle.sql_reader.specs.declared.truth_test.DistinctWords.{DistinctWords}
use Rattle.sql_reader.specs.declared.error.Limit.TheVariants.{InList}
use Rattle.sql_reader.specs.declared.error.Omitted.TheVariants as l
use Rattle.sql_reader.specs.Items.{is_name}
use Rattle.sql_reader.specs.Operands.{Forms, OperandOf, OfTerm, OfLiteral, OfFormula, ParsedPart, part, verdict_map, verdict_then, comparable, fitting, negated_if}
use Rattle.sql_reader.specs.Reading.{Rule, Verdict, fault, refuse, refuse_as, item_ahead}
use Rattle.sql_reader.specs.ErrorKinds as w

-- ---- the operands

-- what is before these words is a column or a remainder of one; `place` is that of IN, BETWEEN or IS
abbrev pub subject_before : {S : Type 0} → ℕ → OperandOf S → Verdict Subject
subject_before place (OfTerm term kind) = Ok (record { term = term; kind = kind })
subject_before place (OfLiteral at constant) = Err (fault place (w.LeftOut l.Constant))
subject_before place (OfFormula s) = Err (fault place w.TypeClash)

-- what follows IN or DISTINCT FROM is a literal that `=` can compare with a column of this type; `place` is that of IN
-- or DISTINCT
abbrev pub beside : {S : Type 0} → ℕ → ColType → OperandOf S → Verdict Constant
beside place kind (OfTerm term other) = Err (fault place (w.LeftOut l.TwoColumns))
beside place kind (OfLiteral at constant) = fitting (comparable place kind Eq constant) constant
beside place kind (OfFormula s) = Err (fault place w.TypeClash)

-- a list has a fault if one of its entries has one; its fault is that of the first such entry
abbrev pub more_beside : Verdict Constant → Verdict (List Constant) → Verdict (List Constant)
more_beside (Ok constant) more = verdict_map (λ constants. constant ∷ constants) more
more_beside (Err fault) more = Err fault

abbrev pub all_beside : {S : Type 0} → ℕ → ColType → List (OperandOf S) → Verdict (List Constant)
all_beside place kind [] = Ok []
all_beside place kind (operand ∷ operands) = more_beside (beside place kind operand) (all_beside place kind operands)

-- only numbers have an order here
abbrev pub number_beside : ℕ → ColType → Constant → Verdict ℤ
number_beside place SmallInt (Number number) = Ok number
number_beside place Integer (Number number) = Ok number
number_beside place BigInt (Number number) = Ok number
number_beside place Boolean (Truth known) = Err (fault place (w.LeftOut l.Order))
number_beside place Text (Bytes text) = Err (fault place (w.LeftOut l.Order))
number_beside place kind (Bytes text) = Err (fault place (w.LeftOut l.Literal))
number_beside place kind constant = Err (fault place w.TypeClash)

-- a bound of BETWEEN, which is at this place
abbrev pub bound : {S : Type 0} → ℕ → ColType → OperandOf S → Verdict ℤ
bound place kind (OfTerm term other) = Err (fault place (w.LeftOut l.TwoColumns))
bound place kind (OfLiteral at constant) = number_beside place kind constant
bound place kind (OfFormula s) = Err (fault place w.TypeClash)

-- ---- what they make together

unfoldable pub among : {S : Type 0} → Forms S → ℕ → OperandOf S → OperandOf S → List (OperandOf S) → Verdict S
among forms place left first others =
    verdict_then (subject_before place left) (λ on.
    verdict_then (beside place on.kind first) (λ constant.
    verdict_map (forms.among on.term constant) (all_beside place on.kind others)))

unfoldable pub between : {S : Type 0} → Forms S → ℕ → OperandOf S → OperandOf S → OperandOf S → Verdict S
between forms place left low high =
    verdict_then (subject_before place left) (λ on.
    verdict_then (bound place on.kind low) (λ lowest.
    verdict_map (forms.between on.term lowest) (bound place on.kind high)))

-- the first place is that of IS, the second that of DISTINCT
unfoldable pub distinct_from : {S : Type 0} → Forms S → ℕ → ℕ → OperandOf S → OperandOf S → Verdict S
distinct_from forms place distinct_place left right =
    verdict_then (subject_before place left) (λ on.
    verdict_map (forms.distinct on.term) (beside distinct_place on.kind right))

-- NOT negates them, and the part begins where its left side does
abbrev pub formed : {S : Type 0} → Forms S → Bool → ℕ → Verdict S → Verdict (ParsedPart S)
formed forms is_negated place verdict =
    verdict_map (λ s. part place (OfFormula (negated_if forms is_negated s))) verdict

abbrev pub among_part : {S : Type 0} → Forms S → MembershipWord → ParsedPart S → OperandOf S → List (OperandOf S)
    → Verdict (ParsedPart S)
among_part forms word left first others =
    formed forms word.is_negated left.place (among forms word.place left.operand first others)

abbrev pub between_part : {S : Type 0} → Forms S → MembershipWord → ParsedPart S → OperandOf S → OperandOf S
    → Verdict (ParsedPart S)
between_part forms word left low high =
    formed forms word.is_negated left.place (between forms word.place left.operand low high)

abbrev pub distinct_part : {S : Type 0} → Forms S → DistinctWords → ParsedPart S → OperandOf S → Verdict (ParsedPart S)
distinct_part forms words left right =
    formed forms words.is_negated left.place (distinct_from forms words.place words.distinct_place left.operand right)

-- ---- how many entries a list may have

-- whether this token begins an operand, or is NULL or CASE instead
abbrev pub begins_operand : Option Item → Bool
begins_operand (Some (i.Operator Minus)) = true
begins_operand (Some (i.Number number)) = true
begins_operand (Some i.Text) = true
begins_operand (Some i.Open) = true
begins_operand (Some (i.Keyword k.True)) = true
begins_operand (Some (i.Keyword k.False)) = true
begins_operand (Some (i.Keyword k.Null)) = true
begins_operand (Some item) = is_name item
begins_operand None = false

abbrev pub one_too_many : Rule (Unit {0})
one_too_many ts = (if begins_operand (item_ahead ts) then refuse_as (w.TooMany InList) else refuse) ts

-- at most 100 entries; `others` entries follow the first so far
unfoldable pub room_in_list : ℕ → Rule (Unit {0})
room_in_list others ts = if nat_lt others 99 then Ok (tt, ts) else one_too_many ts

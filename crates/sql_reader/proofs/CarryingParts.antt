-- What the forms make of parts of an expression, and which parts fit together, is carried over.
use Rattle.std.proofs.Common.{◌≡◌, ℕ, ℤ, pos, Bool, true, false, List, [], ◌∷◌, map, refl, ap, ◌∙◌}
use Rattle.std.specs.Prelude.{Option, Some, None, Ok, Err}
use Rattle.std.specs.Option.{option_map}
use Rattle.std.specs.Ordering.{int_eq}
use Rattle.sql_tokens.specs.declared.kinds.Operator.TheVariants as o
use Rattle.filter_tree.specs.declared.filter.Op.{Op}
use Rattle.filter_tree.specs.declared.filter.Term.TheVariants.{Col, Mod}
use Rattle.filter_tree.specs.declared.filter.Test.{Test}
use Rattle.filter_tree.specs.declared.filter.Test.TheVariants.{Unknown}
use Rattle.filter_tree.specs.declared.table.Column.{Column}
use Rattle.filter_tree.specs.declared.table.ColType.{ColType}
use Rattle.filter_tree.specs.declared.table.ColType.TheVariants.{SmallInt, Integer, BigInt, Boolean, Text}
use Rattle.filter_tree.specs.Datum.{Number, Truth, Bytes}
use Rattle.sql_reader.specs.declared.word.Keyword.TheVariants as k
use Rattle.sql_reader.specs.declared.item.Item.{Item}
use Rattle.sql_reader.specs.declared.item.Item.TheVariants as i
use Rattle.sql_reader.specs.declared.column.FoundColumn.{FoundColumn}
use Rattle.sql_reader.specs.declared.truth_test.TestedValue.{TestedValue}
use Rattle.sql_reader.specs.declared.truth_test.TestedValue.TheVariants as a
use Rattle.sql_reader.specs.declared.truth_test.TruthTest.{TruthTest}
use Rattle.sql_reader.specs.declared.truth_test.DistinctWords.{DistinctWords}
use Rattle.sql_reader.specs.declared.membership.MembershipWord.{MembershipWord}
use Rattle.sql_reader.specs.Expressions.{column, column_part, number_part, cast_or_none, string_part, truth_part, simple_by, simple, divisor, term}
use Rattle.sql_reader.specs.Items.{Items}
use Rattle.sql_reader.specs.Memberships.{subject_before, beside, all_beside, bound, among, between, distinct_from, formed, among_part, between_part, distinct_part}
use Rattle.sql_reader.specs.Numbers.{placed_number}
use Rattle.sql_reader.specs.Operands.{Forms, OperandOf, OfTerm, OfLiteral, OfFormula, ParsedPart, part, verdict_map, verdict_then, truth, true_or_clash, wanted, negated, joined, dividend, divided, remainder, comparable, fitting, compared, compared_part, truth_asked, answered, negated_if, tested as tested_part}
use Rattle.sql_reader.specs.Reading.{Verdict, with_rest, item_ahead, rest_of}
use Rattle.sql_reader.proofs.Carrying.{mapped, Carries, then-same}
use Rattle.filter_tree.proofs.Tests.{by_test}

abbrev pub operand_map : {S T : Type 0} → (S → T) → OperandOf S → OperandOf T
operand_map h (OfTerm term kind) = OfTerm term kind
operand_map h (OfLiteral place constant) = OfLiteral place constant
operand_map h (OfFormula s) = OfFormula (h s)

abbrev pub part_map : {S T : Type 0} → (S → T) → ParsedPart S → ParsedPart T
part_map h part = record { place = part.place; operand = operand_map h part.operand }

-- a check in a sequence of rules
pub check-carried : {A B : Type 0} (h : A → B) (verdict : Verdict A) (found : Verdict B)
    → found ≡ verdict_map h verdict → (ts : Items) → with_rest found ts ≡ mapped h (with_rest verdict ts)
check-carried h (Ok a) found is ts = ap (λ v. with_rest v ts) is
check-carried h (Err fault) found is ts = ap (λ v. with_rest v ts) is

verdict_map-carried : {A B C D : Type 0} (h : A → B) (k : C → D) (f : A → C) (g : B → D) (verdict : Verdict A)
    (found : Verdict B) →
    found ≡ verdict_map h verdict → ((a : A) → g (h a) ≡ k (f a))
    → verdict_map g found ≡ verdict_map k (verdict_map f verdict)
verdict_map-carried h k f g (Ok a) found is e = ap (verdict_map g) is ∙ ap Ok (e a)
verdict_map-carried h k f g (Err fault) found is e = ap (verdict_map g) is

fitting-carried : {S T : Type 0} (h : S → T) (fit : Verdict (Unit {0})) (s : S) (t : T) → t ≡ h s
    → fitting fit t ≡ verdict_map h (fitting fit s)
fitting-carried h (Ok fit) s t e = ap Ok e
fitting-carried h (Err fault) s t e = refl

pub dividend-same : {S T : Type 0} (h : S → T) (operand : OperandOf S)
    → dividend (operand_map h operand) ≡ dividend operand
dividend-same h (OfTerm (Col column) SmallInt) = refl
dividend-same h (OfTerm (Col column) Integer) = refl
dividend-same h (OfTerm (Col column) BigInt) = refl
dividend-same h (OfTerm (Col column) Boolean) = refl
dividend-same h (OfTerm (Col column) Text) = refl
dividend-same h (OfTerm (Mod column divisor) kind) = refl
dividend-same h (OfLiteral place constant) = refl
dividend-same h (OfFormula s) = refl

divided-carried : {S T : Type 0} (h : S → T) (digits first : ℕ) (column : FoundColumn) (divisor : ℤ)
    → divided digits first column divisor ≡ verdict_map (part_map h) (divided digits first column divisor)
divided-carried h digits first column divisor = by_test (int_eq divisor (pos 0)) (λ e. rw e refl) (λ e. rw e refl)

pub remainder-carried : {S T : Type 0} (h : S → T) (place first : ℕ) (column : Option FoundColumn)
    (operand : OperandOf S) →
    remainder place first column (operand_map h operand)
    ≡ verdict_map (part_map h) (remainder place first column operand)
unfolding remainder
remainder-carried h place first (Some column) (OfLiteral digits (Number divisor)) =
    divided-carried h digits first column divisor
remainder-carried h place first (Some column) (OfLiteral digits (Truth known)) = refl
remainder-carried h place first (Some column) (OfLiteral digits (Bytes text)) = refl
remainder-carried h place first (Some column) (OfTerm term kind) = refl
remainder-carried h place first (Some column) (OfFormula s) = refl
remainder-carried h place first None operand = refl

-- the operands of IN, BETWEEN and IS DISTINCT FROM, which no form makes
subject-same : {S T : Type 0} (h : S → T) (place : ℕ) (operand : OperandOf S)
    → subject_before place (operand_map h operand) ≡ subject_before place operand
subject-same h place (OfTerm term kind) = refl
subject-same h place (OfLiteral at constant) = refl
subject-same h place (OfFormula s) = refl

beside-same : {S T : Type 0} (h : S → T) (place : ℕ) (kind : ColType) (operand : OperandOf S)
    → beside place kind (operand_map h operand) ≡ beside place kind operand
beside-same h place kind (OfTerm term other) = refl
beside-same h place kind (OfLiteral at constant) = refl
beside-same h place kind (OfFormula s) = refl

all_beside-same : {S T : Type 0} (h : S → T) (place : ℕ) (kind : ColType) (operands : List (OperandOf S)) →
    all_beside place kind (map (operand_map h) operands) ≡ all_beside place kind operands
all_beside-same h place kind [] = refl
all_beside-same h place kind (operand ∷ operands) =
    rw (beside-same h place kind operand, all_beside-same h place kind operands) refl

bound-same : {S T : Type 0} (h : S → T) (place : ℕ) (kind : ColType) (operand : OperandOf S)
    → bound place kind (operand_map h operand) ≡ bound place kind operand
bound-same h place kind (OfTerm term other) = refl
bound-same h place kind (OfLiteral at constant) = refl
bound-same h place kind (OfFormula s) = refl

-- ---- literals and columns, which no form makes

simple_by-carried : {S T : Type 0} (h : S → T) (columns : List Column) (item : Option Item) (ts : Items)
    → simple_by columns item ts ≡ mapped (part_map h) (simple_by columns item ts)
unfolding column_part number_part string_part truth_part
simple_by-carried h columns (Some (i.Operator o.Minus)) ts =
    then-same (part_map h) (placed_number ts) _ _ (λ digits ts2. refl)
simple_by-carried h columns (Some (i.Number number)) ts =
    then-same (part_map h) (placed_number ts) _ _ (λ digits ts2. refl)
simple_by-carried h columns (Some i.Text) ts = then-same (part_map h) (cast_or_none (rest_of ts)) _ _ (λ u ts2. refl)
simple_by-carried h columns (Some (i.Keyword k.True)) ts = refl
simple_by-carried h columns (Some (i.Keyword k.False)) ts = refl
simple_by-carried h columns (Some (i.Keyword k.Null)) ts = refl
simple_by-carried h columns (Some (i.Keyword k.Case)) ts = refl
simple_by-carried h columns _ ts = then-same (part_map h) (column columns ts) _ _ (λ found ts2. refl)

pub simple-carried : {S T : Type 0} (h : S → T) (columns : List Column) (ts : Items)
    → simple columns ts ≡ mapped (part_map h) (simple columns ts)
unfolding simple
simple-carried h columns ts = simple_by-carried h columns (item_ahead ts) ts

-- ---- checks of what the forms make

module _ {S T : Type 0} (from : Forms S) (to : Forms T) (h : S → T) (carries : Carries from to h) where
  truth-carried : (operand : OperandOf S) → truth to (operand_map h operand) ≡ option_map h (truth from operand)
  truth-carried (OfTerm (Col column) SmallInt) = refl
  truth-carried (OfTerm (Col column) Integer) = refl
  truth-carried (OfTerm (Col column) BigInt) = refl
  truth-carried (OfTerm (Col column) Boolean) = ap Some (carries.held column)
  truth-carried (OfTerm (Col column) Text) = refl
  truth-carried (OfTerm (Mod column divisor) kind) = refl
  truth-carried (OfLiteral place (Number number)) = refl
  truth-carried (OfLiteral place (Truth known)) = ap Some (carries.known known)
  truth-carried (OfLiteral place (Bytes text)) = refl
  truth-carried (OfFormula s) = refl

  true_or_clash-carried : (place : ℕ) (read : Option S) (found : Option T) → found ≡ option_map h read
      → true_or_clash place found ≡ verdict_map h (true_or_clash place read)
  true_or_clash-carried place None found e = ap (true_or_clash place) e
  true_or_clash-carried place (Some s) found e = ap (true_or_clash place) e

  pub wanted-carried : (part : ParsedPart S) → wanted to (part_map h part) ≡ verdict_map h (wanted from part)
  unfolding wanted
  wanted-carried part =
      true_or_clash-carried part.place (truth from part.operand) (truth to (operand_map h part.operand))
      (truth-carried part.operand)

  pub negated-carried : (place : ℕ) (part : ParsedPart S)
      → negated to place (part_map h part) ≡ verdict_map (part_map h) (negated from place part)
  unfolding negated
  negated-carried place right =
      verdict_map-carried h (part_map h) _ _ (wanted from right) (wanted to (part_map h right)) (wanted-carried right)
      (λ s. ap (λ t. part place (OfFormula t)) (carries.negated s))

  pub joined-carried : (join : S → S → S) (other : T → T → T)
      → ((left right : S) → other (h left) (h right) ≡ h (join left right))
      → (place : ℕ) (left : S) (right : ParsedPart S) →
      joined to other place (h left) (part_map h right) ≡ verdict_map (part_map h) (joined from join place left right)
  unfolding joined
  joined-carried join other e place left right =
      verdict_map-carried h (part_map h) _ _ (wanted from right) (wanted to (part_map h right)) (wanted-carried right)
      (λ s. ap (λ t. part place (OfFormula t)) (e left s))

  compared-carried : (place : ℕ) (left : OperandOf S) (op : Op) (right : OperandOf S) →
      compared to place (operand_map h left) op (operand_map h right)
      ≡ verdict_map h (compared from place left op right)
  unfolding compared
  compared-carried place (OfTerm term kind) op (OfTerm other other_kind) = refl
  compared-carried place (OfTerm term kind) op (OfLiteral at constant) =
      fitting-carried h (comparable place kind op constant) (from.compared term op constant)
      (to.compared term op constant) (carries.compared term op constant)
  compared-carried place (OfTerm term kind) op (OfFormula s) = refl
  compared-carried place (OfLiteral at constant) op (OfTerm term kind) =
      fitting-carried h (comparable place kind op constant) (from.compared_from constant op term)
      (to.compared_from constant op term) (carries.compared_from constant op term)
  compared-carried place (OfLiteral at constant) op (OfLiteral other_at other) = refl
  compared-carried place (OfLiteral at (Number number)) op (OfFormula s) = refl
  compared-carried place (OfLiteral at (Truth known)) op (OfFormula s) = refl
  compared-carried place (OfLiteral at (Bytes text)) op (OfFormula s) = refl
  compared-carried place (OfFormula s) op (OfTerm term kind) = refl
  compared-carried place (OfFormula s) op (OfLiteral at (Number number)) = refl
  compared-carried place (OfFormula s) op (OfLiteral at (Truth known)) = refl
  compared-carried place (OfFormula s) op (OfLiteral at (Bytes text)) = refl
  compared-carried place (OfFormula s) op (OfFormula other) = refl

  pub compared_part-carried : (place : ℕ) (left : ParsedPart S) (op : Op) (right : ParsedPart S) →
      compared_part to place (part_map h left) op (part_map h right)
      ≡ verdict_map (part_map h) (compared_part from place left op right)
  compared_part-carried place left op right =
      verdict_map-carried h (part_map h) _ _ (compared from place left.operand op right.operand)
      (compared to place (operand_map h left.operand) op (operand_map h right.operand))
      (compared-carried place left.operand op right.operand) (λ s. refl)

  asking-carried : (place : ℕ) (test : Test) (read : Option S) (found : Option T) → found ≡ option_map h read
      → truth_asked to place test found ≡ verdict_map h (truth_asked from place test read)
  asking-carried place test None found e = ap (truth_asked to place test) e
  asking-carried place test (Some s) found e = ap (truth_asked to place test) e ∙ ap Ok (carries.asked test s)

  asking_truth-carried : (place : ℕ) (test : Test) (operand : OperandOf S)
      → truth_asked to place test (truth to (operand_map h operand))
      ≡ verdict_map h (truth_asked from place test (truth from operand))
  asking_truth-carried place test operand =
      asking-carried place test (truth from operand) (truth to (operand_map h operand)) (truth-carried operand)

  answered-carried : (place : ℕ) (asked : TestedValue) (operand : OperandOf S)
      → answered to place asked (operand_map h operand) ≡ verdict_map h (answered from place asked operand)
  answered-carried place a.Null (OfTerm term kind) = ap Ok (carries.lacking term)
  answered-carried place a.Null (OfLiteral at (Number number)) = refl
  answered-carried place a.Null (OfLiteral at (Truth known)) =
      asking_truth-carried place Unknown (OfLiteral at (Truth known))
  answered-carried place a.Null (OfLiteral at (Bytes text)) = refl
  answered-carried place a.Null (OfFormula s) = asking_truth-carried place Unknown (OfFormula s)
  answered-carried place (a.Truth test) (OfTerm term kind) = asking_truth-carried place test (OfTerm term kind)
  answered-carried place (a.Truth test) (OfLiteral at (Number number)) = refl
  answered-carried place (a.Truth test) (OfLiteral at (Truth known)) =
      asking_truth-carried place test (OfLiteral at (Truth known))
  answered-carried place (a.Truth test) (OfLiteral at (Bytes text)) = refl
  answered-carried place (a.Truth test) (OfFormula s) = asking_truth-carried place test (OfFormula s)

  negated_if-carried : (is_negated : Bool) (s : S) → negated_if to is_negated (h s) ≡ h (negated_if from is_negated s)
  negated_if-carried true s = carries.negated s
  negated_if-carried false s = refl

  pub tested_part-carried : (truth_test : TruthTest) (asked_part : ParsedPart S)
      → tested_part to truth_test (part_map h asked_part)
      ≡ verdict_map (part_map h) (tested_part from truth_test asked_part)
  unfolding tested_part
  tested_part-carried truth_test asked_part =
      verdict_map-carried h (part_map h) _ _ (answered from truth_test.place truth_test.asked asked_part.operand)
      (answered to truth_test.place truth_test.asked (operand_map h asked_part.operand))
      (answered-carried truth_test.place truth_test.asked asked_part.operand)
      (λ s. ap (λ t. part asked_part.place (OfFormula t)) (negated_if-carried truth_test.is_negated s))

  -- one check after another, if the first is the same
  next-carried : {A : Type 0} (verdict found : Verdict A) (more : A → Verdict S) (other : A → Verdict T)
      → found ≡ verdict → ((a : A) → other a ≡ verdict_map h (more a)) →
      verdict_then found other ≡ verdict_map h (verdict_then verdict more)
  next-carried (Ok a) found more other is e = ap (λ v. verdict_then v other) is ∙ e a
  next-carried (Err fault) found more other is e = ap (λ v. verdict_then v other) is

  last-carried : {A : Type 0} (verdict found : Verdict A) (make : A → S) (other : A → T) → found ≡ verdict
      → ((a : A) → other a ≡ h (make a)) →
      verdict_map other found ≡ verdict_map h (verdict_map make verdict)
  last-carried (Ok a) found make other is e = ap (verdict_map other) is ∙ ap Ok (e a)
  last-carried (Err fault) found make other is e = ap (verdict_map other) is

  among-carried : (place : ℕ) (left first : OperandOf S) (others : List (OperandOf S)) →
      among to place (operand_map h left) (operand_map h first) (map (operand_map h) others)
      ≡ verdict_map h (among from place left first others)
  unfolding among
  among-carried place left first others =
      next-carried (subject_before place left) (subject_before place (operand_map h left)) _ _
      (subject-same h place left) (λ on.
      next-carried (beside place on.kind first) (beside place on.kind (operand_map h first)) _ _
      (beside-same h place on.kind first) (λ constant.
      last-carried (all_beside place on.kind others) (all_beside place on.kind (map (operand_map h) others)) _ _
      (all_beside-same h place on.kind others)
      (λ constants. carries.among on.term constant constants)))

  between-carried : (place : ℕ) (left low high : OperandOf S) →
      between to place (operand_map h left) (operand_map h low) (operand_map h high)
      ≡ verdict_map h (between from place left low high)
  unfolding between
  between-carried place left low high =
      next-carried (subject_before place left) (subject_before place (operand_map h left)) _ _
      (subject-same h place left) (λ on.
      next-carried (bound place on.kind low) (bound place on.kind (operand_map h low)) _ _
      (bound-same h place on.kind low) (λ lowest.
      last-carried (bound place on.kind high) (bound place on.kind (operand_map h high)) _ _
      (bound-same h place on.kind high)
      (λ highest. carries.between on.term lowest highest)))

  distinct-carried : (place distinct_place : ℕ) (left right : OperandOf S) →
      distinct_from to place distinct_place (operand_map h left) (operand_map h right)
      ≡ verdict_map h (distinct_from from place distinct_place left right)
  unfolding distinct_from
  distinct-carried place distinct_place left right =
      next-carried (subject_before place left) (subject_before place (operand_map h left)) _ _
      (subject-same h place left) (λ on.
      last-carried (beside distinct_place on.kind right) (beside distinct_place on.kind (operand_map h right)) _ _
      (beside-same h distinct_place on.kind right)
      (λ constant. carries.distinct on.term constant))

  formed-carried : (is_negated : Bool) (place : ℕ) (verdict : Verdict S) (found : Verdict T)
      → found ≡ verdict_map h verdict →
      formed to is_negated place found ≡ verdict_map (part_map h) (formed from is_negated place verdict)
  formed-carried is_negated place verdict found is =
      verdict_map-carried h (part_map h) _ _ verdict found is
      (λ s. ap (λ t. part place (OfFormula t)) (negated_if-carried is_negated s))

  pub among_part-carried : (word : MembershipWord) (left : ParsedPart S) (first : OperandOf S)
      (others : List (OperandOf S)) →
      among_part to word (part_map h left) (operand_map h first) (map (operand_map h) others)
      ≡ verdict_map (part_map h) (among_part from word left first others)
  among_part-carried word left first others =
      formed-carried word.is_negated left.place (among from word.place left.operand first others)
      (among to word.place (operand_map h left.operand) (operand_map h first) (map (operand_map h) others))
      (among-carried word.place left.operand first others)

  pub between_part-carried : (word : MembershipWord) (left : ParsedPart S) (low high : OperandOf S) →
      between_part to word (part_map h left) (operand_map h low) (operand_map h high)
      ≡ verdict_map (part_map h) (between_part from word left low high)
  between_part-carried word left low high =
      formed-carried word.is_negated left.place (between from word.place left.operand low high)
      (between to word.place (operand_map h left.operand) (operand_map h low) (operand_map h high))
      (between-carried word.place left.operand low high)

  pub distinct_part-carried : (words : DistinctWords) (left : ParsedPart S) (right : OperandOf S) →
      distinct_part to words (part_map h left) (operand_map h right)
      ≡ verdict_map (part_map h) (distinct_part from words left right)
  distinct_part-carried words left right =
      formed-carried words.is_negated left.place
      (distinct_from from words.place words.distinct_place left.operand right)
      (distinct_from to words.place words.distinct_place (operand_map h left.operand) (operand_map h right))
      (distinct-carried words.place words.distinct_place left.operand right)

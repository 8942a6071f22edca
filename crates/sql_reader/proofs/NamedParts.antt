-- What is made of columns that exist names columns that exist.
use Rattle.std.proofs.Common.{◌≡◌, ℕ, ◌+◌, ◌<◌, ℤ, pos, Bool, true, false, List, [], ◌∷◌, ◌++◌, All, length, sym, subst, arith}
use Rattle.std.proofs.lemmas.List.{map-append}
use Rattle.std.proofs.lemmas.List.Elements.{All-nil, All-cons, All-append}
use Rattle.std.specs.Prelude.{Option, Some, None, Ok, Err, if◌then◌else◌}
use Rattle.std.specs.Ordering.{int_eq}
use Rattle.std.specs.Str.{bytes_eq}
use Rattle.filter_tree.specs.declared.filter.Op.{Op}
use Rattle.filter_tree.specs.declared.filter.Term.{Term}
use Rattle.filter_tree.specs.declared.filter.Term.TheVariants.{Col, Mod}
use Rattle.filter_tree.specs.declared.filter.Test.{Test}
use Rattle.filter_tree.specs.declared.filter.Test.TheVariants.{Unknown}
use Rattle.filter_tree.specs.declared.table.Column.{Column}
use Rattle.filter_tree.specs.declared.table.ColType.TheVariants.{SmallInt, Integer, BigInt, Boolean, Text}
use Rattle.filter_tree.specs.Datum.{Number, Truth, Bytes}
use Rattle.filter_tree.specs.Expr.{AtomOf, Cmp, In, Between, Distinct, term_of, Expr, Atom, And, Or}
use Rattle.filter_tree.specs.Lists.{atoms_in, column_of, columns_in, NamesWithin}
use Rattle.sql_reader.specs.declared.name.PlacedName.{PlacedName}
use Rattle.sql_reader.specs.declared.column.FoundColumn.{FoundColumn}
use Rattle.sql_reader.specs.declared.subject.Subject.{Subject}
use Rattle.sql_reader.specs.declared.truth_test.TestedValue.{TestedValue}
use Rattle.sql_reader.specs.declared.truth_test.TestedValue.TheVariants as a
use Rattle.sql_reader.specs.declared.truth_test.TruthTest.{TruthTest}
use Rattle.sql_reader.specs.Expressions.{found_from, find_column, known, known_column, column, divisor, term}
use Rattle.sql_reader.specs.Items.{Items}
use Rattle.sql_reader.specs.Memberships.{subject_before, beside, all_beside, bound, among, between, distinct_from, formed}
use Rattle.sql_reader.specs.Operands.{OperandOf, OfTerm, OfLiteral, OfFormula, ParsedPart, part, verdict_map, verdict_then, truth, true_or_clash, wanted, negated, joined, dividend, remainder, comparable, fitting, compared, compared_part, truth_asked, answered, negated_if, tested as tested_part}
use Rattle.sql_reader.specs.Reading.{Fault, Verdict, with_rest}
use Rattle.sql_reader.specs.Ascending.{ascending}
use Rattle.sql_reader.specs.Written.{as_filter, compared_expr, compared_from_expr, turned}
use Rattle.sql_reader.proofs.Keeping.{Gives}

-- ---- columns that are found

module _ (P : FoundColumn → Type 0) (called : PlacedName) (ts : Items) where
  either_found : (is : Bool) (column : FoundColumn) (rest : Option FoundColumn) → P column
      → Gives P (with_rest (known called rest) ts)
      → Gives P (with_rest (known called (if is then Some column else rest)) ts)
  either_found true column rest here later = here
  either_found false column rest here later = later

found_within : (number : ℕ) (called : PlacedName) (columns : List Column) (ts : Items)
    → Gives (λ (column : FoundColumn). column.number < number + length columns)
    (with_rest (known called (found_from number called.text columns)) ts)
found_within number called [] ts = tt
found_within number called (column ∷ columns) ts =
    let same : (number + 1) + length columns ≡ number + length (column ∷ columns) = omega arith in
    either_found (λ (found : FoundColumn). found.number < number + length (column ∷ columns)) called ts
    (bytes_eq called.text column.name)
    (record { number = number; kind = column.kind }) (found_from (number + 1) called.text columns) (omega arith)
    (subst (λ (most : ℕ). Gives (λ (found : FoundColumn). found.number < most)
    (with_rest (known called (found_from (number + 1) called.text columns)) ts)) same
    (found_within (number + 1) called columns ts))

pub known_column-gives : (columns : List Column) (called : PlacedName) (ts : Items)
    → Gives (λ (column : FoundColumn). column.number < length columns) (with_rest (known_column columns called) ts)
unfolding known_column find_column
known_column-gives columns called ts =
    let same : 0 + length columns ≡ length columns = omega arith in
    subst (λ (most : ℕ). Gives (λ (found : FoundColumn). found.number < most)
    (with_rest (known called (found_from 0 called.text columns)) ts)) same (found_within 0 called columns ts)

-- ---- checks

-- P holds for what a check gives, if nothing is wrong
abbrev pub Says : {A : Type 0} → (A → Type 0) → Verdict A → Type 0
Says P (Ok a) = P a
Says P (Err fault) = Unit {0}

pub check-gives : {A : Type 0} (P : A → Type 0) (verdict : Verdict A) (ts : Items) → Says P verdict
    → Gives P (with_rest verdict ts)
check-gives P (Ok a) ts h = h
check-gives P (Err fault) ts h = tt

map-says : {A B : Type 0} (Q : A → Type 0) (P : B → Type 0) (f : A → B) (verdict : Verdict A) → Says Q verdict
    → ((a : A) → Q a → P (f a)) → Says P (verdict_map f verdict)
map-says Q P f (Ok a) q h = h a q
map-says Q P f (Err fault) q h = tt

any_map-says : {A B : Type 0} (P : B → Type 0) (f : A → B) (verdict : Verdict A) → ((a : A) → P (f a))
    → Says P (verdict_map f verdict)
any_map-says P f (Ok a) h = h a
any_map-says P f (Err fault) h = tt

then-says : {A B : Type 0} (Q : A → Type 0) (P : B → Type 0) (verdict : Verdict A) (more : A → Verdict B)
    → Says Q verdict → ((a : A) → Q a → Says P (more a)) → Says P (verdict_then verdict more)
then-says Q P (Ok a) more q h = h a q
then-says Q P (Err fault) more q h = tt

any_then-says : {A B : Type 0} (P : B → Type 0) (verdict : Verdict A) (more : A → Verdict B)
    → ((a : A) → Says P (more a)) → Says P (verdict_then verdict more)
any_then-says P (Ok a) more h = h a
any_then-says P (Err fault) more h = tt

fitting-says : {S : Type 0} (P : S → Type 0) (fit : Verdict (Unit {0})) (s : S) → P s → Says P (fitting fit s)
fitting-says P (Ok fit) s h = h
fitting-says P (Err fault) s h = tt

-- ---- what is made of columns that exist

module _ (count : ℕ) where
  abbrev pub Named : Expr → Type 0
  Named filter = NamesWithin count filter

  abbrev NamedTerm : Term → Type 0
  NamedTerm term = column_of term < count

  abbrev NamedOperand : OperandOf Expr → Type 0
  NamedOperand (OfTerm term kind) = NamedTerm term
  NamedOperand (OfLiteral place constant) = Unit {0}
  NamedOperand (OfFormula filter) = Named filter

  abbrev pub NamedPart : ParsedPart Expr → Type 0
  NamedPart part = NamedOperand part.operand

  abbrev NamedOption : Option Expr → Type 0
  NamedOption None = Unit {0}
  NamedOption (Some filter) = Named filter

  atom-named : (atom : AtomOf) → NamedTerm (term_of atom) → Named (Atom atom)
  atom-named atom h = All-cons (λ column. column < count) (column_of (term_of atom)) [] h
      (All-nil (λ column. column < count))

  appended-named : (left right : List AtomOf) → All (λ column. column < count) (columns_in left)
      → All (λ column. column < count) (columns_in right)
      → All (λ column. column < count) (columns_in (left ++ right))
  appended-named left right one other =
      subst (All (λ column. column < count)) (sym (map-append (λ (atom : AtomOf). column_of (term_of atom)) left right))
      (All-append (λ column. column < count) (columns_in left) (columns_in right) one other)

  pub both-named : (left right : Expr) → Named left → Named right → Named (And left right)
  both-named left right one other = appended-named (atoms_in left) (atoms_in right) one other

  pub either-named : (left right : Expr) → Named left → Named right → Named (Or left right)
  either-named left right one other = appended-named (atoms_in left) (atoms_in right) one other

  truth-named : (operand : OperandOf Expr) → NamedOperand operand → NamedOption (truth as_filter operand)
  truth-named (OfTerm (Col column) SmallInt) h = tt
  truth-named (OfTerm (Col column) Integer) h = tt
  truth-named (OfTerm (Col column) BigInt) h = tt
  truth-named (OfTerm (Col column) Boolean) h = All-cons (λ c. c < count) column [] h (All-nil (λ c. c < count))
  truth-named (OfTerm (Col column) Text) h = tt
  truth-named (OfTerm (Mod column divisor) kind) h = tt
  truth-named (OfLiteral place (Number number)) h = tt
  truth-named (OfLiteral place (Truth known)) h = All-nil (λ c. c < count)
  truth-named (OfLiteral place (Bytes text)) h = tt
  truth-named (OfFormula filter) h = h

  true_or_clash-named : (place : ℕ) (read : Option Expr) → NamedOption read → Says Named (true_or_clash place read)
  true_or_clash-named place None h = tt
  true_or_clash-named place (Some filter) h = h

  pub wanted-named : (part : ParsedPart Expr) → NamedPart part → Says Named (wanted as_filter part)
  unfolding wanted
  wanted-named part h = true_or_clash-named part.place (truth as_filter part.operand) (truth-named part.operand h)

  pub negated-named : (place : ℕ) (right : ParsedPart Expr) → NamedPart right
      → Says NamedPart (negated as_filter place right)
  unfolding negated
  negated-named place right h =
      map-says Named NamedPart _ (wanted as_filter right) (wanted-named right h) (λ filter n. n)

  pub joined-named : (join : Expr → Expr → Expr)
      → ((left right : Expr) → Named left → Named right → Named (join left right))
      → (place : ℕ) (left : Expr) (right : ParsedPart Expr) → Named left → NamedPart right
      → Says NamedPart (joined as_filter join place left right)
  unfolding joined
  joined-named join joins place left right one other =
      map-says Named NamedPart _ (wanted as_filter right) (wanted-named right other)
      (λ filter n. joins left filter one n)

  abbrev pub NamedFound : Option FoundColumn → Type 0
  NamedFound None = Unit {0}
  NamedFound (Some column) = column.number < count

  pub dividend-named : (operand : OperandOf Expr) → NamedOperand operand → NamedFound (dividend operand)
  dividend-named (OfTerm (Col column) SmallInt) h = h
  dividend-named (OfTerm (Col column) Integer) h = h
  dividend-named (OfTerm (Col column) BigInt) h = h
  dividend-named (OfTerm (Col column) Boolean) h = tt
  dividend-named (OfTerm (Col column) Text) h = tt
  dividend-named (OfTerm (Mod column divisor) kind) h = tt
  dividend-named (OfLiteral place constant) h = tt
  dividend-named (OfFormula filter) h = tt

  divided-named : (digits first : ℕ) (column : FoundColumn) (divisor : ℤ) (is_zero : Bool) (fault : Fault)
      → column.number < count
      → Says NamedPart (if is_zero then Err fault else Ok (part first (OfTerm (Mod column.number divisor) column.kind)))
  divided-named digits first column divisor true fault h = tt
  divided-named digits first column divisor false fault h = h

  pub remainder-named : (place first : ℕ) (column : Option FoundColumn) (operand : OperandOf Expr) → NamedFound column
      → Says NamedPart (remainder place first column operand)
  unfolding remainder
  remainder-named place first (Some column) (OfLiteral digits (Number divisor)) h =
      divided-named digits first column divisor (int_eq divisor (pos 0)) _ h
  remainder-named place first (Some column) (OfLiteral digits (Truth known)) h = tt
  remainder-named place first (Some column) (OfLiteral digits (Bytes text)) h = tt
  remainder-named place first (Some column) (OfTerm term kind) h = tt
  remainder-named place first (Some column) (OfFormula filter) h = tt
  remainder-named place first None operand h = tt

  compared-named : (place : ℕ) (left : OperandOf Expr) (op : Op) (right : OperandOf Expr) → NamedOperand left
      → NamedOperand right → Says Named (compared as_filter place left op right)
  unfolding compared
  compared-named place (OfTerm term kind) op (OfTerm other other_kind) h r = tt
  compared-named place (OfTerm term kind) op (OfLiteral at constant) h r =
      fitting-says Named (comparable place kind op constant) (compared_expr term op constant)
      (atom-named (Cmp term op constant) h)
  compared-named place (OfTerm term kind) op (OfFormula filter) h r = tt
  compared-named place (OfLiteral at constant) op (OfTerm term kind) h r =
      fitting-says Named (comparable place kind op constant) (compared_from_expr constant op term)
      (atom-named (Cmp term (turned op) constant) r)
  compared-named place (OfLiteral at constant) op (OfLiteral other_at other) h r = tt
  compared-named place (OfLiteral at (Number number)) op (OfFormula filter) h r = tt
  compared-named place (OfLiteral at (Truth known)) op (OfFormula filter) h r = tt
  compared-named place (OfLiteral at (Bytes text)) op (OfFormula filter) h r = tt
  compared-named place (OfFormula filter) op (OfTerm term kind) h r = tt
  compared-named place (OfFormula filter) op (OfLiteral at (Number number)) h r = tt
  compared-named place (OfFormula filter) op (OfLiteral at (Truth known)) h r = tt
  compared-named place (OfFormula filter) op (OfLiteral at (Bytes text)) h r = tt
  compared-named place (OfFormula filter) op (OfFormula other) h r = tt

  pub compared_part-named : (place : ℕ) (left : ParsedPart Expr) (op : Op) (right : ParsedPart Expr) → NamedPart left
      → NamedPart right
      → Says NamedPart (compared_part as_filter place left op right)
  compared_part-named place left op right h r =
      map-says Named NamedPart _ (compared as_filter place left.operand op right.operand)
      (compared-named place left.operand op right.operand h r) (λ filter n. n)

  asking-named : (place : ℕ) (test : Test) (read : Option Expr) → NamedOption read
      → Says Named (truth_asked as_filter place test read)
  asking-named place test None h = tt
  asking-named place test (Some filter) h = h

  answered-named : (place : ℕ) (asked : TestedValue) (operand : OperandOf Expr) → NamedOperand operand
      → Says Named (answered as_filter place asked operand)
  answered-named place a.Null (OfTerm term kind) h =
      All-cons (λ c. c < count) (column_of term) [] h (All-nil (λ c. c < count))
  answered-named place a.Null (OfLiteral at (Number number)) h = tt
  answered-named place a.Null (OfLiteral at (Truth known)) h =
      asking-named place Unknown (truth as_filter (OfLiteral at (Truth known)))
      (truth-named (OfLiteral at (Truth known)) h)
  answered-named place a.Null (OfLiteral at (Bytes text)) h = tt
  answered-named place a.Null (OfFormula filter) h = h
  answered-named place (a.Truth test) (OfTerm term kind) h =
      asking-named place test (truth as_filter (OfTerm term kind)) (truth-named (OfTerm term kind) h)
  answered-named place (a.Truth test) (OfLiteral at (Number number)) h = tt
  answered-named place (a.Truth test) (OfLiteral at (Truth known)) h =
      asking-named place test (truth as_filter (OfLiteral at (Truth known)))
      (truth-named (OfLiteral at (Truth known)) h)
  answered-named place (a.Truth test) (OfLiteral at (Bytes text)) h = tt
  answered-named place (a.Truth test) (OfFormula filter) h = h

  negated_if-named : (is_negated : Bool) (filter : Expr) → Named filter → Named (negated_if as_filter is_negated filter)
  negated_if-named true filter h = h
  negated_if-named false filter h = h

  pub tested_part-named : (truth_test : TruthTest) (asked_part : ParsedPart Expr) → NamedPart asked_part
      → Says NamedPart (tested_part as_filter truth_test asked_part)
  unfolding tested_part
  tested_part-named truth_test asked_part h =
      map-says Named NamedPart _ (answered as_filter truth_test.place truth_test.asked asked_part.operand)
      (answered-named truth_test.place truth_test.asked asked_part.operand h)
      (λ filter n. negated_if-named truth_test.is_negated filter n)

  -- ---- IN, BETWEEN and IS DISTINCT FROM

  abbrev NamedSubject : Subject → Type 0
  NamedSubject on = NamedTerm on.term

  subject-named : (place : ℕ) (operand : OperandOf Expr) → NamedOperand operand
      → Says NamedSubject (subject_before place operand)
  subject-named place (OfTerm term kind) h = h
  subject-named place (OfLiteral at constant) h = tt
  subject-named place (OfFormula filter) h = tt

  pub formed-named : (is_negated : Bool) (place : ℕ) (verdict : Verdict Expr) → Says Named verdict
      → Says NamedPart (formed as_filter is_negated place verdict)
  formed-named is_negated place verdict h =
      map-says Named NamedPart _ verdict h (λ filter n. negated_if-named is_negated filter n)

  pub among-named : (place : ℕ) (left first : OperandOf Expr) (others : List (OperandOf Expr)) → NamedOperand left
      → Says Named (among as_filter place left first others)
  unfolding among
  among-named place left first others h =
      then-says NamedSubject Named (subject_before place left) _ (subject-named place left h) (λ on n.
      any_then-says Named (beside place on.kind first) _ (λ constant.
      any_map-says Named _ (all_beside place on.kind others)
      (λ constants. atom-named (In on.term (ascending (constant ∷ constants))) n)))

  pub between-named : (place : ℕ) (left low high : OperandOf Expr) → NamedOperand left
      → Says Named (between as_filter place left low high)
  unfolding between
  between-named place left low high h =
      then-says NamedSubject Named (subject_before place left) _ (subject-named place left h) (λ on n.
      any_then-says Named (bound place on.kind low) _ (λ lowest.
      any_map-says Named _ (bound place on.kind high) (λ highest. atom-named (Between on.term lowest highest) n)))

  pub distinct-named : (place distinct_place : ℕ) (left right : OperandOf Expr) → NamedOperand left
      → Says Named (distinct_from as_filter place distinct_place left right)
  unfolding distinct_from
  distinct-named place distinct_place left right h =
      then-says NamedSubject Named (subject_before place left) _ (subject-named place left h) (λ on n.
      any_map-says Named _ (beside distinct_place on.kind right) (λ constant. atom-named (Distinct on.term constant) n))

-- What is made of columns of a table suits that table.
use Rattle.std.proofs.Common.{◌≡◌, ◌≢◌, ℕ, zero, suc, ◌+◌, ◌-◌, ◌<◌, ◌≤◌, ℤ, pos, Bool, true, false, List, [], ◌∷◌, All, length, refl, sym, subst, ◌∙◌, arith}
use Rattle.std.proofs.lemmas.Bool.Decides.{Decides-int_eq}
use Rattle.std.proofs.lemmas.List.Elements.{All-nil, All-cons, All-append}
use Rattle.std.proofs.lemmas.Map.Views.{All-insert_key}
use Rattle.std.specs.Prelude.{Option, Some, None, Ok, Err, if◌then◌else◌, fold, slice_get}
use Rattle.std.specs.List.{list_any}
use Rattle.std.specs.Ordering.{int_eq}
use Rattle.std.specs.Str.{bytes_eq}
use Rattle.filter_tree.specs.declared.filter.Op.{Op}
use Rattle.filter_tree.specs.declared.filter.Op.TheVariants.{Eq, Ne, Lt, Le, Gt, Ge}
use Rattle.filter_tree.specs.declared.filter.Term.{Term}
use Rattle.filter_tree.specs.declared.filter.Term.TheVariants.{Col, Mod}
use Rattle.filter_tree.specs.declared.filter.Test.{Test}
use Rattle.filter_tree.specs.declared.filter.Test.TheVariants.{Unknown}
use Rattle.filter_tree.specs.declared.table.Column.{Column}
use Rattle.filter_tree.specs.declared.table.ColType.{ColType}
use Rattle.filter_tree.specs.declared.table.ColType.TheVariants.{SmallInt, Integer, BigInt, Boolean, Text}
use Rattle.filter_tree.specs.Datum.{Constant, Number, Truth, Bytes}
use Rattle.filter_tree.specs.Expr.{AtomOf, Cmp, IsNull, In, Between, Distinct, term_of, Expr, Atom, And, Or}
use Rattle.filter_tree.specs.Lists.{atoms_in, column_of}
use Rattle.sql_reader.specs.declared.name.PlacedName.{PlacedName}
use Rattle.sql_reader.specs.declared.column.FoundColumn.{FoundColumn}
use Rattle.sql_reader.specs.declared.subject.Subject.{Subject}
use Rattle.sql_reader.specs.declared.truth_test.TestedValue.{TestedValue}
use Rattle.sql_reader.specs.declared.truth_test.TestedValue.TheVariants as a
use Rattle.sql_reader.specs.declared.truth_test.TruthTest.{TruthTest}
use Rattle.sql_reader.specs.Expressions.{found_from, find_column, known, known_column}
use Rattle.sql_reader.specs.Items.{Items}
use Rattle.sql_reader.specs.Memberships.{subject_before, beside, more_beside, all_beside, number_beside, bound, among, between, distinct_from, formed}
use Rattle.sql_reader.specs.Operands.{OperandOf, OfTerm, OfLiteral, OfFormula, ParsedPart, part, verdict_map, verdict_then, truth, true_or_clash, wanted, negated, joined, dividend, remainder, equality, comparable, fitting, compared, compared_part, truth_asked, answered, negated_if, tested as tested_part}
use Rattle.sql_reader.specs.Reading.{Fault, Verdict, with_rest}
use Rattle.sql_reader.specs.Ascending.{constant_cmp, inserted_in_order, ascending}
use Rattle.sql_reader.specs.Written.{as_filter, compared_expr, compared_from_expr, turned}
use Rattle.sql_reader.proofs.AscendingLemmas.{any_ascending}
use Rattle.sql_reader.proofs.Keeping.{Gives}
use Rattle.sql_reader.proofs.NamedParts.{Says}
use Rattle.pub_reader.specs.WellFormed.{IsInteger, IsOfKind, IsTermOf, IsOpOf, SuitsType, SuitsColumn, SuitsTable}

-- ---- columns that are found

-- there is a column, and it has this type
abbrev pub HasKind : ColType → Option Column → Type 0
HasKind kind None = ⊥
HasKind kind (Some column) = column.kind ≡ kind

abbrev pub IsFoundIn : List Column → FoundColumn → Type 0
IsFoundIn columns found = HasKind found.kind (slice_get columns found.number)

-- the same among columns of which the first has this number
abbrev IsFoundFrom : ℕ → List Column → FoundColumn → Type 0
IsFoundFrom number columns found =
    (number ≤ found.number) × HasKind found.kind (slice_get columns (found.number - number))

later_column : (number : ℕ) (column : Column) (columns : List Column) (found : FoundColumn)
    → IsFoundFrom (number + 1) columns found → IsFoundFrom number (column ∷ columns) found
later_column number column columns found h =
    let least = h.0 in
    let next : found.number - number ≡ suc (found.number - (number + 1)) = omega arith in
    (omega arith, subst (λ n. HasKind found.kind (slice_get (column ∷ columns) n)) (sym next) h.1)

found_from-finds : (number : ℕ) (called : PlacedName) (columns : List Column) (ts : Items)
    → Gives (IsFoundFrom number columns) (with_rest (known called (found_from number called.text columns)) ts)
found_from-finds number called [] ts = tt
found_from-finds number called (column ∷ columns) ts =
    chosen (bytes_eq called.text column.name) (found_from (number + 1) called.text columns)
    (found_from-finds (number + 1) called columns ts)
  where
    here : IsFoundFrom number (column ∷ columns) (record { number = number; kind = column.kind })
    here =
        let none : number - number ≡ 0 = omega arith in
        (omega arith, subst (λ n. HasKind column.kind (slice_get (column ∷ columns) n)) (sym none) refl)

    chosen : (is : Bool) (rest : Option FoundColumn)
        → Gives (IsFoundFrom (number + 1) columns) (with_rest (known called rest) ts)
        → Gives (IsFoundFrom number (column ∷ columns))
        (with_rest (known called (if is then Some (record { number = number; kind = column.kind }) else rest)) ts)
    chosen true rest later = here
    chosen false None later = tt
    chosen false (Some found) later = later_column number column columns found later

pub known_column-finds : (columns : List Column) (called : PlacedName) (ts : Items)
    → Gives (IsFoundIn columns) (with_rest (known_column columns called) ts)
unfolding known_column find_column
known_column-finds columns called ts =
    from (found_from 0 called.text columns) (found_from-finds 0 called columns ts)
  where
    from : (found : Option FoundColumn) → Gives (IsFoundFrom 0 columns) (with_rest (known called found) ts)
        → Gives (IsFoundIn columns) (with_rest (known called found) ts)
    from None h = tt
    from (Some found) h =
        let same : found.number - 0 ≡ found.number = omega arith in
        subst (λ n. HasKind found.kind (slice_get columns n)) same h.1

-- ---- checks

map-says : {A B : Type 0} (Q : A → Type 0) (P : B → Type 0) (f : A → B) (verdict : Verdict A) → Says Q verdict
    → ((a : A) → Q a → P (f a)) → Says P (verdict_map f verdict)
map-says Q P f (Ok a) q h = h a q
map-says Q P f (Err fault) q h = tt

then-says : {A B : Type 0} (Q : A → Type 0) (P : B → Type 0) (verdict : Verdict A) (more : A → Verdict B)
    → Says Q verdict → ((a : A) → Q a → Says P (more a)) → Says P (verdict_then verdict more)
then-says Q P (Ok a) more q h = h a q
then-says Q P (Err fault) more q h = tt

fitting-says : {S : Type 0} (Q : Type 0) (P : S → Type 0) (fit : Verdict (Unit {0})) (s : S)
    → Says (λ (u : Unit {0}). Q) fit → (Q → P s) → Says P (fitting fit s)
fitting-says Q P (Ok fit) s q h = h q
fitting-says Q P (Err fault) s q h = tt

-- ---- operators and constants that fit a type

abbrev CanCompare : ColType → Op → Constant → Type 0
CanCompare kind op constant = IsOpOf kind op × IsOfKind kind constant

equality-says : (place : ℕ) (kind : ColType) (op : Op) (constant : Constant) → IsOfKind kind constant
    → Says (λ (u : Unit {0}). CanCompare kind op constant) (equality place op)
equality-says place kind Eq constant h = (tt, h)
equality-says place kind Ne constant h = (tt, h)
equality-says place kind Lt constant h = tt
equality-says place kind Le constant h = tt
equality-says place kind Gt constant h = tt
equality-says place kind Ge constant h = tt

integer_op : (kind : ColType) (op : Op) → IsInteger kind → IsOpOf kind op
integer_op kind Eq h = tt
integer_op kind Ne h = tt
integer_op kind Lt h = h
integer_op kind Le h = h
integer_op kind Gt h = h
integer_op kind Ge h = h

comparable-says : (place : ℕ) (kind : ColType) (op : Op) (constant : Constant)
    → Says (λ (u : Unit {0}). CanCompare kind op constant) (comparable place kind op constant)
comparable-says place SmallInt op (Number number) = (integer_op SmallInt op tt, tt)
comparable-says place Integer op (Number number) = (integer_op Integer op tt, tt)
comparable-says place BigInt op (Number number) = (integer_op BigInt op tt, tt)
comparable-says place Boolean op (Number number) = tt
comparable-says place Text op (Number number) = tt
comparable-says place SmallInt op (Truth known) = tt
comparable-says place Integer op (Truth known) = tt
comparable-says place BigInt op (Truth known) = tt
comparable-says place Boolean op (Truth known) = equality-says place Boolean op (Truth known) tt
comparable-says place Text op (Truth known) = tt
comparable-says place SmallInt op (Bytes text) = tt
comparable-says place Integer op (Bytes text) = tt
comparable-says place BigInt op (Bytes text) = tt
comparable-says place Boolean op (Bytes text) = tt
comparable-says place Text op (Bytes text) = equality-says place Text op (Bytes text) tt

turned_op : (kind : ColType) (op : Op) → IsOpOf kind op → IsOpOf kind (turned op)
turned_op kind Eq h = tt
turned_op kind Ne h = tt
turned_op kind Lt h = h
turned_op kind Le h = h
turned_op kind Gt h = h
turned_op kind Ge h = h

number_beside-says : (place : ℕ) (kind : ColType) (constant : Constant)
    → Says (λ (number : ℤ). IsInteger kind) (number_beside place kind constant)
number_beside-says place SmallInt (Number number) = tt
number_beside-says place Integer (Number number) = tt
number_beside-says place BigInt (Number number) = tt
number_beside-says place Boolean (Number number) = tt
number_beside-says place Text (Number number) = tt
number_beside-says place SmallInt (Truth known) = tt
number_beside-says place Integer (Truth known) = tt
number_beside-says place BigInt (Truth known) = tt
number_beside-says place Boolean (Truth known) = tt
number_beside-says place Text (Truth known) = tt
number_beside-says place SmallInt (Bytes text) = tt
number_beside-says place Integer (Bytes text) = tt
number_beside-says place BigInt (Bytes text) = tt
number_beside-says place Boolean (Bytes text) = tt
number_beside-says place Text (Bytes text) = tt

bound-says : (place : ℕ) (kind : ColType) (operand : OperandOf Expr)
    → Says (λ (number : ℤ). IsInteger kind) (bound place kind operand)
bound-says place kind (OfTerm term other) = tt
bound-says place kind (OfLiteral at constant) = number_beside-says place kind constant
bound-says place kind (OfFormula filter) = tt

beside-says : (place : ℕ) (kind : ColType) (operand : OperandOf Expr)
    → Says (IsOfKind kind) (beside place kind operand)
beside-says place kind (OfTerm term other) = tt
beside-says place kind (OfLiteral at constant) =
    fitting-says (CanCompare kind Eq constant) (IsOfKind kind) (comparable place kind Eq constant) constant
    (comparable-says place kind Eq constant) (λ can. can.1)
beside-says place kind (OfFormula filter) = tt

all_beside-says : (place : ℕ) (kind : ColType) (operands : List (OperandOf Expr))
    → Says (All (IsOfKind kind)) (all_beside place kind operands)
all_beside-says place kind [] = All-nil (IsOfKind kind)
all_beside-says place kind (operand ∷ operands) =
    more (beside place kind operand) (all_beside place kind operands) (beside-says place kind operand)
    (all_beside-says place kind operands)
  where
    more : (one : Verdict Constant) (others : Verdict (List Constant)) → Says (IsOfKind kind) one
        → Says (All (IsOfKind kind)) others → Says (All (IsOfKind kind)) (more_beside one others)
    more (Ok constant) (Ok constants) h later = All-cons (IsOfKind kind) constant constants h later
    more (Ok constant) (Err fault) h later = tt
    more (Err fault) others h later = tt

-- ---- lists in ascending order

all_inserted : (P : Constant → Type 0) (held constants : List Constant) → All P held → All P constants
    → All P (fold inserted_in_order held constants)
all_inserted P held [] h all = h
all_inserted P held (constant ∷ constants) h all =
    all_inserted P (inserted_in_order held constant) constants
    (All-insert_key constant_cmp constant P held h (all 0 constant (omega arith))) (λ n d low. all (suc n) d (omega arith))

all_ascending : (P : Constant → Type 0) (constants : List Constant) → All P constants → All P (ascending constants)
unfolding ascending
all_ascending P constants all = all_inserted P [] constants (All-nil P) all

some_ascending : (constant : Constant) (constants : List Constant) → 0 < length (ascending (constant ∷ constants))
some_ascending constant constants =
    some (ascending (constant ∷ constants)) (any_ascending (λ other. true) (constant ∷ constants))
  where
    some : (all : List Constant) → list_any (λ other. true) all ≡ true → 0 < length all
    some [] h = absurd cc
    some (first ∷ rest) h = omega arith

-- ---- what is made of columns

module _ (columns : List Column) where
  abbrev pub Suits : Expr → Type 0
  Suits filter = SuitsTable columns filter

  -- a term of a column of this type
  abbrev SuitsTerm : Term → ColType → Type 0
  SuitsTerm term kind = HasKind kind (slice_get columns (column_of term)) × IsTermOf kind term

  abbrev SuitsOperand : OperandOf Expr → Type 0
  SuitsOperand (OfTerm term kind) = SuitsTerm term kind
  SuitsOperand (OfLiteral place constant) = Unit {0}
  SuitsOperand (OfFormula filter) = Suits filter

  abbrev pub SuitsPart : ParsedPart Expr → Type 0
  SuitsPart part = SuitsOperand part.operand

  abbrev SuitsOption : Option Expr → Type 0
  SuitsOption None = Unit {0}
  SuitsOption (Some filter) = Suits filter

  abbrev IsAtom : AtomOf → Type 0
  IsAtom atom = SuitsColumn (slice_get columns (column_of (term_of atom))) atom

  suits_found : (found : Option Column) (kind : ColType) (atom : AtomOf) → HasKind kind found → SuitsType kind atom
      → SuitsColumn found atom
  suits_found None kind atom has h = has
  suits_found (Some column) kind atom has h = subst (λ k. SuitsType k atom) (sym has) h

  atom-suits : (kind : ColType) (atom : AtomOf) → HasKind kind (slice_get columns (column_of (term_of atom)))
      → SuitsType kind atom → Suits (Atom atom)
  atom-suits kind atom has h =
      All-cons IsAtom atom [] (suits_found (slice_get columns (column_of (term_of atom))) kind atom has h)
      (All-nil IsAtom)

  pub both-suits : (left right : Expr) → Suits left → Suits right → Suits (And left right)
  both-suits left right one other = All-append IsAtom (atoms_in left) (atoms_in right) one other

  pub either-suits : (left right : Expr) → Suits left → Suits right → Suits (Or left right)
  either-suits left right one other = All-append IsAtom (atoms_in left) (atoms_in right) one other

  truth-suits : (operand : OperandOf Expr) → SuitsOperand operand → SuitsOption (truth as_filter operand)
  truth-suits (OfTerm (Col column) SmallInt) h = tt
  truth-suits (OfTerm (Col column) Integer) h = tt
  truth-suits (OfTerm (Col column) BigInt) h = tt
  truth-suits (OfTerm (Col column) Boolean) h =
      atom-suits Boolean (Cmp (Col column) Eq (Truth true)) h.0 (tt, (tt, tt))
  truth-suits (OfTerm (Col column) Text) h = tt
  truth-suits (OfTerm (Mod column divisor) kind) h = tt
  truth-suits (OfLiteral place (Number number)) h = tt
  truth-suits (OfLiteral place (Truth known)) h = All-nil IsAtom
  truth-suits (OfLiteral place (Bytes text)) h = tt
  truth-suits (OfFormula filter) h = h

  true_or_clash-suits : (place : ℕ) (read : Option Expr) → SuitsOption read → Says Suits (true_or_clash place read)
  true_or_clash-suits place None h = tt
  true_or_clash-suits place (Some filter) h = h

  pub wanted-suits : (part : ParsedPart Expr) → SuitsPart part → Says Suits (wanted as_filter part)
  unfolding wanted
  wanted-suits part h = true_or_clash-suits part.place (truth as_filter part.operand) (truth-suits part.operand h)

  pub negated-suits : (place : ℕ) (right : ParsedPart Expr) → SuitsPart right
      → Says SuitsPart (negated as_filter place right)
  unfolding negated
  negated-suits place right h =
      map-says Suits SuitsPart _ (wanted as_filter right) (wanted-suits right h) (λ filter n. n)

  pub joined-suits : (join : Expr → Expr → Expr)
      → ((left right : Expr) → Suits left → Suits right → Suits (join left right))
      → (place : ℕ) (left : Expr) (right : ParsedPart Expr) → Suits left → SuitsPart right
      → Says SuitsPart (joined as_filter join place left right)
  unfolding joined
  joined-suits join joins place left right one other =
      map-says Suits SuitsPart _ (wanted as_filter right) (wanted-suits right other)
      (λ filter n. joins left filter one n)

  -- ---- remainders

  abbrev pub SuitsFound : Option FoundColumn → Type 0
  SuitsFound None = Unit {0}
  SuitsFound (Some column) = IsFoundIn columns column × IsInteger column.kind

  pub dividend-suits : (operand : OperandOf Expr) → SuitsOperand operand → SuitsFound (dividend operand)
  dividend-suits (OfTerm (Col column) SmallInt) h = (h.0, tt)
  dividend-suits (OfTerm (Col column) Integer) h = (h.0, tt)
  dividend-suits (OfTerm (Col column) BigInt) h = (h.0, tt)
  dividend-suits (OfTerm (Col column) Boolean) h = tt
  dividend-suits (OfTerm (Col column) Text) h = tt
  dividend-suits (OfTerm (Mod column divisor) kind) h = tt
  dividend-suits (OfLiteral place constant) h = tt
  dividend-suits (OfFormula filter) h = tt

  divided-suits : (first : ℕ) (column : FoundColumn) (divisor : ℤ) (is_zero : Bool) (fault : Fault)
      → (is_zero ≡ false → divisor ≢ pos 0) → IsFoundIn columns column × IsInteger column.kind
      → Says SuitsPart
      (if is_zero then Err fault else Ok (part first (OfTerm (Mod column.number divisor) column.kind)))
  divided-suits first column divisor true fault not_zero h = tt
  divided-suits first column divisor false fault not_zero h = (h.0, (h.1, not_zero refl))

  not_zero : (divisor : ℤ) → int_eq divisor (pos 0) ≡ false → divisor ≢ pos 0
  not_zero divisor h is =
      let zero : int_eq divisor (pos 0) ≡ true = (Decides-int_eq divisor (pos 0)).1 is in
      let bad : true ≡ false = sym zero ∙ h in
      cc

  pub remainder-suits : (place first : ℕ) (column : Option FoundColumn) (operand : OperandOf Expr)
      → SuitsFound column → Says SuitsPart (remainder place first column operand)
  unfolding remainder
  remainder-suits place first (Some column) (OfLiteral digits (Number divisor)) h =
      divided-suits first column divisor (int_eq divisor (pos 0)) _ (not_zero divisor) h
  remainder-suits place first (Some column) (OfLiteral digits (Truth known)) h = tt
  remainder-suits place first (Some column) (OfLiteral digits (Bytes text)) h = tt
  remainder-suits place first (Some column) (OfTerm term kind) h = tt
  remainder-suits place first (Some column) (OfFormula filter) h = tt
  remainder-suits place first None operand h = tt

  -- ---- comparisons and tests

  compared-suits : (place : ℕ) (left : OperandOf Expr) (op : Op) (right : OperandOf Expr) → SuitsOperand left
      → SuitsOperand right → Says Suits (compared as_filter place left op right)
  unfolding compared
  compared-suits place (OfTerm term kind) op (OfTerm other other_kind) h r = tt
  compared-suits place (OfTerm term kind) op (OfLiteral at constant) h r =
      fitting-says (CanCompare kind op constant) Suits (comparable place kind op constant)
      (compared_expr term op constant) (comparable-says place kind op constant)
      (λ can. atom-suits kind (Cmp term op constant) h.0 (h.1, can))
  compared-suits place (OfTerm term kind) op (OfFormula filter) h r = tt
  compared-suits place (OfLiteral at constant) op (OfTerm term kind) h r =
      fitting-says (CanCompare kind op constant) Suits (comparable place kind op constant)
      (compared_from_expr constant op term) (comparable-says place kind op constant)
      (λ can. atom-suits kind (Cmp term (turned op) constant) r.0 (r.1, (turned_op kind op can.0, can.1)))
  compared-suits place (OfLiteral at constant) op (OfLiteral other_at other) h r = tt
  compared-suits place (OfLiteral at (Number number)) op (OfFormula filter) h r = tt
  compared-suits place (OfLiteral at (Truth known)) op (OfFormula filter) h r = tt
  compared-suits place (OfLiteral at (Bytes text)) op (OfFormula filter) h r = tt
  compared-suits place (OfFormula filter) op (OfTerm term kind) h r = tt
  compared-suits place (OfFormula filter) op (OfLiteral at (Number number)) h r = tt
  compared-suits place (OfFormula filter) op (OfLiteral at (Truth known)) h r = tt
  compared-suits place (OfFormula filter) op (OfLiteral at (Bytes text)) h r = tt
  compared-suits place (OfFormula filter) op (OfFormula other) h r = tt

  pub compared_part-suits : (place : ℕ) (left : ParsedPart Expr) (op : Op) (right : ParsedPart Expr) → SuitsPart left
      → SuitsPart right → Says SuitsPart (compared_part as_filter place left op right)
  compared_part-suits place left op right h r =
      map-says Suits SuitsPart _ (compared as_filter place left.operand op right.operand)
      (compared-suits place left.operand op right.operand h r) (λ filter n. n)

  asking-suits : (place : ℕ) (test : Test) (read : Option Expr) → SuitsOption read
      → Says Suits (truth_asked as_filter place test read)
  asking-suits place test None h = tt
  asking-suits place test (Some filter) h = h

  answered-suits : (place : ℕ) (asked : TestedValue) (operand : OperandOf Expr) → SuitsOperand operand
      → Says Suits (answered as_filter place asked operand)
  answered-suits place a.Null (OfTerm term kind) h = atom-suits kind (IsNull (column_of term)) h.0 tt
  answered-suits place a.Null (OfLiteral at (Number number)) h = tt
  answered-suits place a.Null (OfLiteral at (Truth known)) h =
      asking-suits place Unknown (truth as_filter (OfLiteral at (Truth known)))
      (truth-suits (OfLiteral at (Truth known)) h)
  answered-suits place a.Null (OfLiteral at (Bytes text)) h = tt
  answered-suits place a.Null (OfFormula filter) h = h
  answered-suits place (a.Truth test) (OfTerm term kind) h =
      asking-suits place test (truth as_filter (OfTerm term kind)) (truth-suits (OfTerm term kind) h)
  answered-suits place (a.Truth test) (OfLiteral at (Number number)) h = tt
  answered-suits place (a.Truth test) (OfLiteral at (Truth known)) h =
      asking-suits place test (truth as_filter (OfLiteral at (Truth known)))
      (truth-suits (OfLiteral at (Truth known)) h)
  answered-suits place (a.Truth test) (OfLiteral at (Bytes text)) h = tt
  answered-suits place (a.Truth test) (OfFormula filter) h = h

  negated_if-suits : (is_negated : Bool) (filter : Expr) → Suits filter → Suits (negated_if as_filter is_negated filter)
  negated_if-suits true filter h = h
  negated_if-suits false filter h = h

  pub tested_part-suits : (truth_test : TruthTest) (asked_part : ParsedPart Expr) → SuitsPart asked_part
      → Says SuitsPart (tested_part as_filter truth_test asked_part)
  unfolding tested_part
  tested_part-suits truth_test asked_part h =
      map-says Suits SuitsPart _ (answered as_filter truth_test.place truth_test.asked asked_part.operand)
      (answered-suits truth_test.place truth_test.asked asked_part.operand h)
      (λ filter n. negated_if-suits truth_test.is_negated filter n)

  -- ---- IN, BETWEEN and IS DISTINCT FROM

  abbrev SuitsSubject : Subject → Type 0
  SuitsSubject on = SuitsTerm on.term on.kind

  subject-suits : (place : ℕ) (operand : OperandOf Expr) → SuitsOperand operand
      → Says SuitsSubject (subject_before place operand)
  subject-suits place (OfTerm term kind) h = h
  subject-suits place (OfLiteral at constant) h = tt
  subject-suits place (OfFormula filter) h = tt

  pub formed-suits : (is_negated : Bool) (place : ℕ) (verdict : Verdict Expr) → Says Suits verdict
      → Says SuitsPart (formed as_filter is_negated place verdict)
  formed-suits is_negated place verdict h =
      map-says Suits SuitsPart _ verdict h (λ filter n. negated_if-suits is_negated filter n)

  pub among-suits : (place : ℕ) (left first : OperandOf Expr) (others : List (OperandOf Expr)) → SuitsOperand left
      → Says Suits (among as_filter place left first others)
  unfolding among
  among-suits place left first others h =
      then-says SuitsSubject Suits (subject_before place left) _ (subject-suits place left h) (λ on n.
      then-says (IsOfKind on.kind) Suits (beside place on.kind first) _ (beside-says place on.kind first)
      (λ constant one.
      map-says (All (IsOfKind on.kind)) Suits _ (all_beside place on.kind others) (all_beside-says place on.kind others)
      (λ constants all. atom-suits on.kind (In on.term (ascending (constant ∷ constants))) n.0 (
        n.1,
        (
          some_ascending constant constants,
          all_ascending (IsOfKind on.kind) (constant ∷ constants)
              (All-cons (IsOfKind on.kind) constant constants one all),
        ),
      ))))

  pub between-suits : (place : ℕ) (left low high : OperandOf Expr) → SuitsOperand left
      → Says Suits (between as_filter place left low high)
  unfolding between
  between-suits place left low high h =
      then-says SuitsSubject Suits (subject_before place left) _ (subject-suits place left h) (λ on n.
      then-says (λ (number : ℤ). IsInteger on.kind) Suits (bound place on.kind low) _ (bound-says place on.kind low)
      (λ lowest is.
      map-says (λ (number : ℤ). IsInteger on.kind) Suits _ (bound place on.kind high) (bound-says place on.kind high)
      (λ highest also. atom-suits on.kind (Between on.term lowest highest) n.0 (n.1, is))))

  pub distinct-suits : (place distinct_place : ℕ) (left right : OperandOf Expr) → SuitsOperand left
      → Says Suits (distinct_from as_filter place distinct_place left right)
  unfolding distinct_from
  distinct-suits place distinct_place left right h =
      then-says SuitsSubject Suits (subject_before place left) _ (subject-suits place left h) (λ on n.
      map-says (IsOfKind on.kind) Suits _ (beside distinct_place on.kind right)
      (beside-says distinct_place on.kind right)
      (λ constant is. atom-suits on.kind (Distinct on.term constant) n.0 (n.1, is)))

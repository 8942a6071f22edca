-- The values that are tried decide whether a value is left for a term.
use Rattle.std.proofs.Common.{◌≡◌, ℕ, zero, suc, ◌+◌, ◌-◌, ℤ, pos, negsuc, ◌+ℤ◌, ◌≤ℤ◌, Bool, true, false, not, ◌&&◌, ◌||◌, List, [], ◌∷◌, refl, sym, ◌∙◌, ap, subst, arith}
use Rattle.std.specs.Prelude.{Option, Some, None, int_le}
use Rattle.std.specs.Int.Signed.{le_z_yes}
use Rattle.std.specs.Bool.{passes}
use Rattle.std.specs.Str.{bytes_eq}
use Rattle.std.specs.List.{list_any}
use Rattle.std.proofs.lemmas.Int.{ints}
use Rattle.std.proofs.lemmas.Slice.Eq.{bytes_eq-Decides}
use Rattle.filter_tree.specs.Datum.{Constant, Number, Truth, Bytes}
use Rattle.filter_tree.specs.Compare.{compare_numbers_of}
use Rattle.filter_tree.specs.Expr.{AtomOf, Cmp, IsNull, In, Between, Distinct}
use Rattle.filter_tree.specs.Paths.{Path}
use Rattle.filter_tree.specs.declared.filter.Op.{Op}
use Rattle.filter_tree.specs.declared.filter.Op.TheVariants.{Eq, Ne, Lt, Le, Gt, Ge}
use Rattle.filter_tree.specs.declared.filter.Term.{Term}
use Rattle.filter_tree.specs.declared.table.ColType.{ColType}
use Rattle.filter_tree.specs.declared.table.ColType.TheVariants.{SmallInt, Integer, BigInt, Boolean, Text}
use Rattle.filter_tree.specs.declared.tri.Tri.{Tri}
use Rattle.filter_tree.specs.declared.tri.Tri.TheVariants.{True, False, Null}
use Rattle.shard_checker.specs.Domain.{range_of, IsIn, IsInDomain}
use Rattle.shard_checker.specs.Facts.{compares, holds_of, is_about, leaves, may_be}
use Rattle.shard_checker.specs.Candidates.{serves, constants_of, gives_number, names_number, has_number, gives_text, names_text, has_text, has_value}
use Rattle.shard_checker.specs.declared.domain.Range.{Range}
use Rattle.shard_checker.proofs.Testing.{two_true, two_false, both_false, left_true, right_true, clash, not_true_false}
use Rattle.filter_tree.proofs.Tests.{by_test, from_test}

-- ---- two values about which atoms say the same

-- each comparison with one of the constants says the same about both values
abbrev AreAlike : Option Constant → Option Constant → List Constant → Type 0
AreAlike one other [] = Unit {0}
AreAlike one other (constant ∷ constants) = ((op : Op) → compares op one constant ≡ compares op other constant)
    × AreAlike one other constants

among_alike : (one other : Option Constant) (constants : List Constant) → AreAlike one other constants
    → list_any (compares Eq one) constants ≡ list_any (compares Eq other) constants
among_alike one other [] alike = refl
among_alike one other (constant ∷ constants) alike = let here = alike.0 Eq in let there =
    among_alike one other constants alike.1 in cc

-- an atom says the same about both if each comparison with its constants does
holds_alike : (one other : Option Constant) (atom : AtomOf) → AreAlike one other (constants_of atom)
    → holds_of atom one ≡ holds_of atom other
holds_alike one other (Cmp term op constant) alike = alike.0 op
holds_alike one other (IsNull column) alike = refl
holds_alike one other (In term constants) alike = among_alike one other constants alike
holds_alike one other (Between term low high) alike = let above = alike.0 Ge in let below = alike.1.0 Le in cc
holds_alike one other (Distinct term constant) alike = alike.0 Ne

leaves_alike : (term : Term) (one other : Option Constant) (atom : AtomOf) (found : Tri)
    → (is_about term atom ≡ true → holds_of atom one ≡ holds_of atom other)
    → leaves term one atom found ≡ leaves term other atom found
leaves_alike term one other atom True alike = by_test (is_about term atom)
    (λ about. rw about (alike about))
    (λ apart. rw apart refl)
leaves_alike term one other atom False alike = by_test (is_about term atom)
    (λ about. rw about (ap not (alike about)))
    (λ apart. rw apart refl)
leaves_alike term one other atom Null alike = refl

-- if a test holds for no atom of a path, the path leaves both values or neither, provided that each atom for which the
-- test does not hold says the same about both
all_alike : (term : Term) (one other : Option Constant) (test : AtomOf → Bool)
    → ((atom : AtomOf) → test atom ≡ false → is_about term atom ≡ true → holds_of atom one ≡ holds_of atom other)
    → (part : Path) → list_any (λ entry. test entry.0) part ≡ false → may_be term part one ≡ may_be term part other
all_alike term one other test alike [] none = refl
all_alike term one other test alike (entry ∷ part) none =
    let both = both_false (test entry.0) (list_any (λ entry. test entry.0) part) none in
    let here = leaves_alike term one other entry.0 entry.1 (alike entry.0 both.0) in
    let there = all_alike term one other test alike part both.1 in
    cc

-- ---- numbers

pub le_test : (a b : ℤ) → a ≤ℤ b → int_le a b ≡ true
le_test a b h = from_test _ h.le

pub test_le : (a b : ℤ) → int_le a b ≡ true → a ≤ℤ b
test_le a b h = le_z_yes (passes _ h)

serves_when : (range : Range) (term : Term) (path : Path) (number : ℤ) → IsIn range number
    → may_be term path (Some (Number number)) ≡ true → serves range term path number ≡ true
serves_when range term path number inside left =
    two_true (int_le range.least number) (int_le number range.greatest && may_be term path (Some (Number number)))
    (le_test range.least number inside.above_least)
    (two_true (int_le number range.greatest) (may_be term path (Some (Number number)))
    (le_test number range.greatest inside.below_greatest) left)

-- a number and the number before it compare alike with each other number
same_side : (op : Op) (before number constant : ℤ) → number ≡ before +ℤ pos 1 → (constant ≡ number → ⊥)
    → (constant ≡ before → ⊥)
    → compare_numbers_of op number constant ≡ compare_numbers_of op before constant
same_side Eq before number constant e above below = grind (arith, ints)
same_side Ne before number constant e above below = grind (arith, ints)
same_side Lt before number constant e above below = grind (arith, ints)
same_side Le before number constant e above below = grind (arith, ints)
same_side Gt before number constant e above below = grind (arith, ints)
same_side Ge before number constant e above below = grind (arith, ints)

-- constants that do not serve, and do not come before a number that serves, do not distinguish a number that serves
-- from the number before it
numbers_alike : (range : Range) (term : Term) (path : Path) (before number : ℤ) → number ≡ before +ℤ pos 1
    → serves range term path number ≡ true
    → (constants : List Constant) → list_any (gives_number range term path) constants ≡ false
    → AreAlike (Some (Number number)) (Some (Number before)) constants
numbers_alike range term path before number e here [] none = tt
numbers_alike range term path before number e here (Number k ∷ constants) none =
    let both = both_false (serves range term path k || serves range term path (k +ℤ pos 1))
    (list_any (gives_number range term path) constants) none in
    let gone = both_false (serves range term path k) (serves range term path (k +ℤ pos 1)) both.0 in (
      (λ op. same_side op before number k e
          (λ is. clash _ (subst (λ n. serves range term path n ≡ true) (sym is) here) gone.0)
          (λ is. clash _ (subst (λ n. serves range term path n ≡ true) (e ∙ ap (λ n. n +ℤ pos 1) (sym is)) here)
          gone.1)),
      numbers_alike range term path before number e here constants both.1,
    )
numbers_alike range term path before number e here (Truth b ∷ constants) none =
    ((λ op. refl), numbers_alike range term path before number e here constants none)
numbers_alike range term path before number e here (Bytes s ∷ constants) none =
    ((λ op. refl), numbers_alike range term path before number e here constants none)

-- a test that is known to be false if another is true
under : (p q : Bool) → (p && q) ≡ false → p ≡ true → q ≡ false
under true q h e = h
under false q h e = absurd cc

-- what leaves a number that is not named, nor comes after a named one, leaves the number before it
all_before : (range : Range) (term : Term) (path : Path) (before number : ℤ) → number ≡ before +ℤ pos 1
    → serves range term path number ≡ true
    → list_any (λ entry. names_number range term path entry.0) path ≡ false
    → may_be term path (Some (Number number)) ≡ may_be term path (Some (Number before))
all_before range term path before number e here none =
    all_alike term (Some (Number number)) (Some (Number before)) (names_number range term path)
    (λ atom unnamed about. holds_alike (Some (Number number)) (Some (Number before)) atom
    (numbers_alike range term path before number e here (constants_of atom)
    (under (is_about term atom) (list_any (gives_number range term path) (constants_of atom)) unnamed about)))
    path none

-- down from a number that serves to a number that is tried
descend : (range : Range) (term : Term) (path : Path) (steps : ℕ) (number : ℤ) → number ≡ range.least +ℤ pos steps
    → IsIn range number
    → may_be term path (Some (Number number)) ≡ true → has_number range term path ≡ true
descend range term path zero number e inside left =
    let least : number ≡ range.least = omega (arith, ints) in
    left_true (serves range term path range.least) _
    (subst (λ n. serves range term path n ≡ true) least (serves_when range term path number inside left))
descend range term path (suc steps) number e inside left =
    by_test (list_any (λ entry. names_number range term path entry.0) path)
    (λ named. right_true (serves range term path range.least) _ named)
    (λ unnamed. let before : ℤ = range.least +ℤ pos steps in
    let next : number ≡ before +ℤ pos 1 = omega (arith, ints) in
    let low : range.least ≤ℤ before = omega (arith, ints) in
    let within : before ≤ℤ number = omega (arith, ints) in
    let high : before ≤ℤ range.greatest = omega (arith, ints, inside.below_greatest) in
    descend range term path steps before refl (record { above_least = low; below_greatest = high })
    (sym (all_before range term path before number next (serves_when range term path number inside left) unnamed)
    ∙ left))

-- how far a number is above another
distance : (low high : ℤ) → low ≤ℤ high → (steps : ℕ) × (high ≡ low +ℤ pos steps)
distance (pos a) (pos b) h = (b - a, omega (arith, ints))
distance (pos a) (negsuc b) h = absurd (omega (arith, ints))
distance (negsuc a) (pos b) h = (suc a + b, omega (arith, ints))
distance (negsuc a) (negsuc b) h = (a - b, omega (arith, ints))

number_found : (range : Range) (term : Term) (path : Path) (number : ℤ) → IsIn range number
    → may_be term path (Some (Number number)) ≡ true → has_number range term path ≡ true
number_found range term path number inside left =
    let far = distance range.least number inside.above_least in
    descend range term path far.0 number far.1 inside left

-- ---- texts

text_apart : (term : Term) (path : Path) (text named : List ℕ) → may_be term path (Some (Bytes text)) ≡ true
    → may_be term path (Some (Bytes named)) ≡ false
    → bytes_eq text named ≡ false
text_apart term path text named left gone = not_true_false (bytes_eq text named)
    (λ same. let e : text ≡ named = (bytes_eq-Decides text named).0 same in
    clash (may_be term path (Some (Bytes named))) (subst (λ t. may_be term path (Some (Bytes t)) ≡ true) e left) gone)

-- a text that is not the constant compares like any other such text
unnamed_text : (op : Op) (text : List ℕ) (constant : Constant) → compares Eq (Some (Bytes text)) constant ≡ false
    → compares op (Some (Bytes text)) constant ≡ compares op None constant
unnamed_text Eq text (Number k) apart = refl
unnamed_text Ne text (Number k) apart = refl
unnamed_text Lt text (Number k) apart = refl
unnamed_text Le text (Number k) apart = refl
unnamed_text Gt text (Number k) apart = refl
unnamed_text Ge text (Number k) apart = refl
unnamed_text Eq text (Truth b) apart = refl
unnamed_text Ne text (Truth b) apart = refl
unnamed_text Lt text (Truth b) apart = refl
unnamed_text Le text (Truth b) apart = refl
unnamed_text Gt text (Truth b) apart = refl
unnamed_text Ge text (Truth b) apart = refl
unnamed_text Eq text (Bytes named) apart = apart
unnamed_text Ne text (Bytes named) apart = rw apart refl
unnamed_text Lt text (Bytes named) apart = refl
unnamed_text Le text (Bytes named) apart = refl
unnamed_text Gt text (Bytes named) apart = refl
unnamed_text Ge text (Bytes named) apart = refl

texts_alike : (text : List ℕ) (constants : List Constant)
    → list_any (compares Eq (Some (Bytes text))) constants ≡ false → AreAlike (Some (Bytes text)) None constants
texts_alike text [] apart = tt
texts_alike text (constant ∷ constants) apart =
    let both = both_false (compares Eq (Some (Bytes text)) constant)
    (list_any (compares Eq (Some (Bytes text))) constants) apart in
    ((λ op. unnamed_text op text constant both.0), texts_alike text constants both.1)

-- the atom names the text
abbrev pub has_constant : List ℕ → AtomOf → Bool
has_constant text atom = list_any (compares Eq (Some (Bytes text))) (constants_of atom)

-- what leaves a text that no atom names leaves each such text
pub all_unnamed : (term : Term) (text : List ℕ) (test : AtomOf → Bool)
    → ((atom : AtomOf) → test atom ≡ false → is_about term atom ≡ true → has_constant text atom ≡ false)
    → (path : Path) → list_any (λ entry. test entry.0) path ≡ false
    → may_be term path (Some (Bytes text)) ≡ may_be term path None
all_unnamed term text test apart path none =
    all_alike term (Some (Bytes text)) None test
    (λ atom unnamed about. holds_alike (Some (Bytes text)) None atom
    (texts_alike text (constants_of atom) (apart atom unnamed about)))
    path none

-- constants that are not left differ from a text that is
named_apart : (term : Term) (path : Path) (text : List ℕ) → may_be term path (Some (Bytes text)) ≡ true
    → (constants : List Constant) → list_any (gives_text term path) constants ≡ false
    → list_any (compares Eq (Some (Bytes text))) constants ≡ false
named_apart term path text left [] none = refl
named_apart term path text left (Bytes named ∷ constants) none =
    let both = both_false (may_be term path (Some (Bytes named))) (list_any (gives_text term path) constants) none in
    two_false (bytes_eq text named) _ (text_apart term path text named left both.0)
    (named_apart term path text left constants both.1)
named_apart term path text left (Number k ∷ constants) none = named_apart term path text left constants none
named_apart term path text left (Truth b ∷ constants) none = named_apart term path text left constants none

text_found : (term : Term) (path : Path) (text : List ℕ) → may_be term path (Some (Bytes text)) ≡ true
    → has_text term path ≡ true
text_found term path text left = by_test (list_any (λ entry. names_text term path entry.0) path)
    (λ named. right_true (may_be term path None) _ named)
    (λ unnamed. left_true (may_be term path None) _ (sym (all_unnamed term text (names_text term path)
    (λ atom names about. named_apart term path text left (constants_of atom)
    (under (is_about term atom) (list_any (gives_text term path) (constants_of atom)) names about))
    path unnamed) ∙ left))

-- ---- a value that is left is found

truth_found : (term : Term) (path : Path) (truth : Bool) → may_be term path (Some (Truth truth)) ≡ true
    → has_value Boolean term path ≡ true
truth_found term path true left = left_true _ (may_be term path (Some (Truth false))) left
truth_found term path false left = right_true (may_be term path (Some (Truth true))) _ left

pub value_found : (kind : ColType) (term : Term) (path : Path) (value : Constant) → IsInDomain kind term value
    → may_be term path (Some value) ≡ true → has_value kind term path ≡ true
value_found SmallInt term path (Number n) inside left = number_found (range_of SmallInt term) term path n inside left
value_found Integer term path (Number n) inside left = number_found (range_of Integer term) term path n inside left
value_found BigInt term path (Number n) inside left = number_found (range_of BigInt term) term path n inside left
value_found Boolean term path (Truth truth) inside left = truth_found term path truth left
value_found Text term path (Bytes text) inside left = text_found term path text left
value_found SmallInt term path (Truth b) inside left = absurd inside
value_found SmallInt term path (Bytes s) inside left = absurd inside
value_found Integer term path (Truth b) inside left = absurd inside
value_found Integer term path (Bytes s) inside left = absurd inside
value_found BigInt term path (Truth b) inside left = absurd inside
value_found BigInt term path (Bytes s) inside left = absurd inside
value_found Boolean term path (Number n) inside left = absurd inside
value_found Boolean term path (Bytes s) inside left = absurd inside
value_found Text term path (Number n) inside left = absurd inside
value_found Text term path (Truth b) inside left = absurd inside

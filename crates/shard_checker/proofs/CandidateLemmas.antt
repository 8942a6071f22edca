-- A term has a value left, including null, exactly if one of its candidates remains.
use Rattle.std.proofs.Common.{◌≡◌, ℕ, zero, suc, ℤ, pos, ◌+ℤ◌, Bool, true, false, not, ◌&&◌, ◌||◌, List, [], ◌∷◌, ◌++◌, refl, sym, ap, ◌∙◌}
use Rattle.std.specs.Prelude.{Option, Some, None, slice_get, if◌then◌else◌, int_le, flat_map}
use Rattle.std.specs.List.{list_any}
use Rattle.std.proofs.lemmas.List.Folds.{list_any-append}
use Rattle.std.proofs.lemmas.Option.{same_Some}
use Rattle.filter_tree.specs.Datum.{Constant, Number, Truth, Bytes}
use Rattle.filter_tree.specs.Expr.{AtomOf}
use Rattle.filter_tree.specs.Lists.{column_of}
use Rattle.filter_tree.specs.Paths.{Path}
use Rattle.filter_tree.specs.Same.{same_term}
use Rattle.filter_tree.specs.declared.filter.Term.{Term}
use Rattle.filter_tree.specs.declared.table.ColType.{ColType}
use Rattle.filter_tree.specs.declared.table.ColType.TheVariants.{SmallInt, Integer, BigInt, Boolean, Text}
use Rattle.filter_tree.specs.declared.table.Column.{Column}
use Rattle.filter_tree.specs.declared.tri.Tri.{Tri}
use Rattle.filter_tree.proofs.SameLemmas.{same_term_is, same_term_of_equal}
use Rattle.filter_tree.proofs.Tests.{by_test, both_true, or_false, and_false}
use Rattle.shard_checker.specs.Domain.{kind_at, range_of, IsIn, IsInDomain}
use Rattle.shard_checker.specs.Facts.{is_declared, is_found_present, is_said_null, is_present, is_about, leaves, may_be, says_null, says_present}
use Rattle.shard_checker.specs.Candidates.{Candidate, candidate, constant_candidate, constants_of, serves, serves_nearby, gives_number, names_number, has_number, gives_text, names_text, has_value, is_empty, number_in, numbers_nearby, named_by, named_in, always_tried, null_of, candidates_of, candidates_in, remains}
use Rattle.shard_checker.specs.declared.domain.Range.{Range}
use Rattle.shard_checker.proofs.ListTests.{any_flat_map, any_alike, no_any, same_answer, not_any, all_both}
use Rattle.shard_checker.proofs.Testing.{by_either, two_true, left_true, right_true}
use Rattle.shard_checker.proofs.ValueLemmas.{test_le, value_found}

-- ---- one candidate

null_remains : (path : Path) (term : Term)
    → remains path (candidate term None) ≡ not (is_found_present (column_of term) path)
null_remains path term = not_any (λ (entry : AtomOf × Tri). says_present (column_of term) entry.0 entry.1) path

value_remains : (path : Path) (term : Term) (value : Option Constant)
    → remains path (candidate term (Some value)) ≡ (not (is_said_null (column_of term) path) && may_be term path value)
value_remains path term value =
    all_both (λ (entry : AtomOf × Tri). not (says_null (column_of term) entry.0 entry.1))
    (λ (entry : AtomOf × Tri). leaves term value entry.0 entry.1) path
    ∙ ap (λ (known : Bool). known && may_be term path value)
    (not_any (λ (entry : AtomOf × Tri). says_null (column_of term) entry.0 entry.1) path)

-- ---- candidates of one term

abbrev AreOf : Term → List Candidate → Type 0
AreOf term [] = Unit {0}
AreOf term (first ∷ rest) = (first.term ≡ term) × AreOf term rest

of_both : (term : Term) (one other : List Candidate) → AreOf term one → AreOf term other → AreOf term (one ++ other)
of_both term [] other h k = k
of_both term (first ∷ rest) other h k = (h.0, of_both term rest other h.1 k)

and_or : (p q s : Bool) → ((p && s) || (q && s)) ≡ ((p || q) && s)
and_or true q true = refl
and_or true true false = refl
and_or true false false = refl
and_or false q s = refl

any_of_term : (test : Candidate → Bool) (term wanted : Term) (candidates : List Candidate) → AreOf term candidates
    → list_any (λ candidate. test candidate && same_term candidate.term wanted) candidates
    ≡ (list_any test candidates && same_term term wanted)
any_of_term test term wanted [] h = refl
any_of_term test term wanted (first ∷ rest) h =
    ap (λ (t : Term). (test first && same_term t wanted)
    || list_any (λ candidate. test candidate && same_term candidate.term wanted) rest) h.0
    ∙ ap (λ (b : Bool). (test first && same_term term wanted) || b) (any_of_term test term wanted rest h.1)
    ∙ and_or (test first) (list_any test rest) (same_term term wanted)

-- one of several terms
any_here : (test : Term → Bool) (terms : List Term) (number : ℕ) (term : Term) → slice_get terms number ≡ Some term
    → test term ≡ true → list_any (λ other. test other && same_term other term) terms ≡ true
any_here test [] number term there h = absurd cc
any_here test (first ∷ terms) zero term there h =
    let same : first ≡ term = same_Some first term there in
    left_true (test first && same_term first term) _
    (two_true (test first) (same_term first term) (ap test same ∙ h) (same_term_of_equal first term same))
any_here test (first ∷ terms) (suc number) term there h =
    right_true (test first && same_term first term) _ (any_here test terms number term there h)

any_gone : (test : Term → Bool) (term : Term) → test term ≡ false → (other : Term)
    → (test other && same_term other term) ≡ false
any_gone test term h other = by_test (same_term other term)
    (λ same. rw (ap test (same_term_is other term same) ∙ h) refl)
    (λ apart. rw apart (and_false (test other)))

any_alone : (test : Term → Bool) (terms : List Term) (number : ℕ) (term : Term) → slice_get terms number ≡ Some term
    → list_any (λ other. test other && same_term other term) terms ≡ test term
any_alone test terms number term there = by_test (test term)
    (λ h. any_here test terms number term there h ∙ sym h)
    (λ h. no_any (λ (other : Term). test other && same_term other term) (any_gone test term h) terms ∙ sym h)

-- ---- values of one term

-- each is a value of the term, and not null
abbrev AreValues : Term → List Candidate → Type 0
AreValues term [] = Unit {0}
AreValues term (first ∷ rest) =
    ((value : Option Constant) × (first ≡ candidate term (Some value))) × AreValues term rest

values_both : (term : Term) (one other : List Candidate) → AreValues term one → AreValues term other
    → AreValues term (one ++ other)
values_both term [] other h k = k
values_both term (first ∷ rest) other h k = (h.0, values_both term rest other h.1 k)

values_each : {X : Type 0} (term : Term) (f : X → List Candidate) → ((x : X) → AreValues term (f x)) → (xs : List X)
    → AreValues term (flat_map f xs)
values_each term f each [] = tt
values_each term f each (x ∷ xs) = values_both term (f x) (flat_map f xs) (each x) (values_each term f each xs)

values_if : (term : Term) (b : Bool) (value : Option Constant)
    → AreValues term (if b then candidate term (Some value) ∷ [] else [])
values_if term true value = ((value, refl), tt)
values_if term false value = tt

values_nearby : (range : Range) (term : Term) (number : ℤ) → AreValues term (numbers_nearby range term number)
values_nearby range term number =
    values_both term (number_in range term number) (number_in range term (number +ℤ pos 1))
    (values_if term (int_le range.least number && int_le number range.greatest) (Some (Number number)))
    (values_if term (int_le range.least (number +ℤ pos 1) && int_le (number +ℤ pos 1) range.greatest)
    (Some (Number (number +ℤ pos 1))))

values_named : (kind : ColType) (term : Term) (constant : Constant) → AreValues term (named_by kind term constant)
values_named SmallInt term (Number number) = values_nearby (range_of SmallInt term) term number
values_named Integer term (Number number) = values_nearby (range_of Integer term) term number
values_named BigInt term (Number number) = values_nearby (range_of BigInt term) term number
values_named Text term (Bytes text) = ((Some (Bytes text), refl), tt)
values_named Boolean term constant = tt
values_named Text term (Number number) = tt
values_named Text term (Truth truth) = tt
values_named SmallInt term (Truth truth) = tt
values_named SmallInt term (Bytes text) = tt
values_named Integer term (Truth truth) = tt
values_named Integer term (Bytes text) = tt
values_named BigInt term (Truth truth) = tt
values_named BigInt term (Bytes text) = tt

values_named_if : (b : Bool) (kind : ColType) (term : Term) (constants : List Constant)
    → AreValues term (if b then flat_map (named_by kind term) constants else [])
values_named_if true kind term constants = values_each term (named_by kind term) (values_named kind term) constants
values_named_if false kind term constants = tt

values_first : (kind : ColType) (term : Term) → AreValues term (always_tried kind term)
values_first SmallInt term = let range = range_of SmallInt term in
    values_if term (int_le range.least range.least && int_le range.least range.greatest) (Some (Number range.least))
values_first Integer term = let range = range_of Integer term in
    values_if term (int_le range.least range.least && int_le range.least range.greatest) (Some (Number range.least))
values_first BigInt term = let range = range_of BigInt term in
    values_if term (int_le range.least range.least && int_le range.least range.greatest) (Some (Number range.least))
values_first Boolean term = ((Some (Truth true), refl), ((Some (Truth false), refl), tt))
values_first Text term = ((None, refl), tt)

-- the values that are tried for a term
abbrev values_of : ColType → List AtomOf → Term → List Candidate
values_of kind atoms term = always_tried kind term ++ flat_map (named_in kind term) atoms

are_values : (kind : ColType) (atoms : List AtomOf) (term : Term) → AreValues term (values_of kind atoms term)
are_values kind atoms term =
    values_both term (always_tried kind term) (flat_map (named_in kind term) atoms) (values_first kind term)
    (values_each term (named_in kind term)
    (λ atom. values_named_if (is_about term atom) kind term (constants_of atom)) atoms)

-- a candidate is a value that is left for its term, even if something says that the column is null
abbrev may_be_value : Path → Term → Option (Option Constant) → Bool
may_be_value path term None = false
may_be_value path term (Some value) = may_be term path value

abbrev is_left : Path → Candidate → Bool
is_left path candidate = may_be_value path candidate.term candidate.value

-- one of the values remains exactly if one is left and nothing says that the column is null
any_remains : (path : Path) (term : Term) (candidates : List Candidate) → AreValues term candidates
    → list_any (remains path) candidates
    ≡ (not (is_said_null (column_of term) path) && list_any (is_left path) candidates)
any_remains path term [] h = sym (and_false (not (is_said_null (column_of term) path)))
any_remains path term (first ∷ rest) h =
    ap (λ (b : Bool). b || list_any (remains path) rest)
    (ap (remains path) h.0.1 ∙ value_remains path term h.0.0)
    ∙ ap (λ (b : Bool). (not (is_said_null (column_of term) path) && may_be term path h.0.0) || b)
    (any_remains path term rest h.1)
    ∙ or_and (not (is_said_null (column_of term) path)) (may_be term path h.0.0) (list_any (is_left path) rest)
    ∙ ap (λ (b : Bool). not (is_said_null (column_of term) path) && (b || list_any (is_left path) rest))
    (sym (ap (is_left path) h.0.1))
  where
    or_and : (p q s : Bool) → ((p && q) || (p && s)) ≡ (p && (q || s))
    or_and true q s = refl
    or_and false q s = refl

-- ---- the values that are left

number_left : (path : Path) (range : Range) (term : Term) (number : ℤ)
    → list_any (is_left path) (number_in range term number) ≡ serves range term path number
number_left path range term number =
    by_two (int_le range.least number) (int_le number range.greatest)
  where
    by_two : (p q : Bool)
        → list_any (is_left path) (if p && q then constant_candidate term (Number number) ∷ [] else [])
        ≡ (p && (q && may_be term path (Some (Number number))))
    by_two true true = or_false (may_be term path (Some (Number number)))
    by_two true false = refl
    by_two false q = refl

nearby_left : (path : Path) (range : Range) (term : Term) (number : ℤ)
    → list_any (is_left path) (numbers_nearby range term number) ≡ serves_nearby range term path number
nearby_left path range term number =
    list_any-append (is_left path) (number_in range term number) (number_in range term (number +ℤ pos 1))
    ∙ ap (λ (b : Bool). b || list_any (is_left path) (number_in range term (number +ℤ pos 1)))
    (number_left path range term number)
    ∙ ap (λ (b : Bool). serves range term path number || b) (number_left path range term (number +ℤ pos 1))

if_any : {X : Type 0} (test : X → Bool) (b : Bool) (xs : List X)
    → list_any test (if b then xs else []) ≡ (b && list_any test xs)
if_any test true xs = refl
if_any test false xs = refl

-- what is named by atoms, given what is named by a constant
module _ (path : Path) (kind : ColType) (term : Term) (test : Constant → Bool)
    (one : (constant : Constant) → list_any (is_left path) (named_by kind term constant) ≡ test constant) where
  named_left : (atom : AtomOf)
      → list_any (is_left path) (named_in kind term atom) ≡ (is_about term atom && list_any test (constants_of atom))
  named_left atom =
      if_any (is_left path) (is_about term atom) (flat_map (named_by kind term) (constants_of atom))
      ∙ ap (λ (b : Bool). is_about term atom && b)
      (any_flat_map (is_left path) (named_by kind term) (constants_of atom)
      ∙ any_alike (λ constant. list_any (is_left path) (named_by kind term constant)) test one (constants_of atom))

  all_named_left : (atoms : List AtomOf)
      → list_any (is_left path) (flat_map (named_in kind term) atoms)
      ≡ list_any (λ atom. is_about term atom && list_any test (constants_of atom)) atoms
  all_named_left atoms =
      any_flat_map (is_left path) (named_in kind term) atoms
      ∙ any_alike (λ atom. list_any (is_left path) (named_in kind term atom))
      (λ atom. is_about term atom && list_any test (constants_of atom)) named_left atoms

small_left : (path : Path) (term : Term) (constant : Constant)
    → list_any (is_left path) (named_by SmallInt term constant)
    ≡ gives_number (range_of SmallInt term) term path constant
small_left path term (Number number) = nearby_left path (range_of SmallInt term) term number
small_left path term (Truth truth) = refl
small_left path term (Bytes text) = refl

integer_left : (path : Path) (term : Term) (constant : Constant)
    → list_any (is_left path) (named_by Integer term constant) ≡ gives_number (range_of Integer term) term path constant
integer_left path term (Number number) = nearby_left path (range_of Integer term) term number
integer_left path term (Truth truth) = refl
integer_left path term (Bytes text) = refl

big_left : (path : Path) (term : Term) (constant : Constant)
    → list_any (is_left path) (named_by BigInt term constant) ≡ gives_number (range_of BigInt term) term path constant
big_left path term (Number number) = nearby_left path (range_of BigInt term) term number
big_left path term (Truth truth) = refl
big_left path term (Bytes text) = refl

truth_left : (path : Path) (term : Term) (constant : Constant)
    → list_any (is_left path) (named_by Boolean term constant) ≡ false
truth_left path term constant = refl

text_left : (path : Path) (term : Term) (constant : Constant)
    → list_any (is_left path) (named_by Text term constant) ≡ gives_text term path constant
text_left path term (Number number) = refl
text_left path term (Truth truth) = refl
text_left path term (Bytes text) = or_false (may_be term path (Some (Bytes text)))

-- ---- tables and paths

-- the atoms of the path are among these
pub record AreAmong (atoms : List AtomOf) (path : Path) : Type 0 where
  pub each : (test : AtomOf → Bool) → list_any (λ entry. test entry.0) path ≡ true → list_any test atoms ≡ true

-- a number that is in the range and left
left_value : (kind : ColType) (range : Range) (term : Term) (path : Path)
    → ((number : ℤ) → IsIn range number → IsInDomain kind term (Number number)) → (number : ℤ)
    → serves range term path number ≡ true → has_value kind term path ≡ true
left_value kind range term path domain number h =
    let both = both_true (int_le range.least number)
    (int_le number range.greatest && may_be term path (Some (Number number))) h in
    let rest = both_true (int_le number range.greatest) (may_be term path (Some (Number number))) both.1 in
    let inside : IsIn range number = record { above_least = test_le _ _ both.0; below_greatest = test_le _ _ rest.0 } in
    value_found kind term path (Number number) (domain number inside) rest.1

given_value : (kind : ColType) (range : Range) (term : Term) (path : Path)
    → ((number : ℤ) → IsIn range number → IsInDomain kind term (Number number)) → (constants : List Constant)
    → list_any (gives_number range term path) constants ≡ true → has_value kind term path ≡ true
given_value kind range term path domain [] h = absurd cc
given_value kind range term path domain (Number number ∷ constants) h =
    by_either (serves_nearby range term path number) (list_any (gives_number range term path) constants) h
    (λ here. by_either (serves range term path number) (serves range term path (number +ℤ pos 1)) here
    (left_value kind range term path domain number)
    (left_value kind range term path domain (number +ℤ pos 1)))
    (given_value kind range term path domain constants)
given_value kind range term path domain (Truth truth ∷ constants) h =
    given_value kind range term path domain constants h
given_value kind range term path domain (Bytes text ∷ constants) h =
    given_value kind range term path domain constants h

named_value : (kind : ColType) (range : Range) (term : Term) (path : Path)
    → ((number : ℤ) → IsIn range number → IsInDomain kind term (Number number)) → (atoms : List AtomOf)
    → list_any (names_number range term path) atoms ≡ true → has_value kind term path ≡ true
named_value kind range term path domain [] h = absurd cc
named_value kind range term path domain (atom ∷ atoms) h =
    by_either (names_number range term path atom) (list_any (names_number range term path) atoms) h
    (λ here. given_value kind range term path domain (constants_of atom)
    (both_true (is_about term atom) (list_any (gives_number range term path) (constants_of atom)) here).1)
    (named_value kind range term path domain atoms)

-- numbers of the atoms of the table, and of the atoms of the path
numbers_left : (kind : ColType) (range : Range) (term : Term) (path : Path) (atoms : List AtomOf) → AreAmong atoms path
    → ((number : ℤ) → IsIn range number → IsInDomain kind term (Number number))
    → has_value kind term path ≡ has_number range term path
    → (serves range term path range.least || list_any (names_number range term path) atoms) ≡ has_value kind term path
numbers_left kind range term path atoms among domain is =
    same_answer (serves range term path range.least || list_any (names_number range term path) atoms)
    (has_value kind term path)
    (λ h. by_either (serves range term path range.least) (list_any (names_number range term path) atoms) h
    (left_value kind range term path domain range.least)
    (named_value kind range term path domain atoms))
    (λ h. by_either (serves range term path range.least)
    (list_any (λ entry. names_number range term path entry.0) path) (sym is ∙ h)
    (λ least. left_true (serves range term path range.least) _ least)
    (λ named. right_true (serves range term path range.least) _ (among.each (names_number range term path) named)))

given_text : (term : Term) (path : Path) (constants : List Constant)
    → list_any (gives_text term path) constants ≡ true → has_value Text term path ≡ true
given_text term path [] h = absurd cc
given_text term path (Bytes text ∷ constants) h =
    by_either (may_be term path (Some (Bytes text))) (list_any (gives_text term path) constants) h
    (λ here. value_found Text term path (Bytes text) tt here)
    (given_text term path constants)
given_text term path (Number number ∷ constants) h = given_text term path constants h
given_text term path (Truth truth ∷ constants) h = given_text term path constants h

named_text : (term : Term) (path : Path) (atoms : List AtomOf)
    → list_any (names_text term path) atoms ≡ true → has_value Text term path ≡ true
named_text term path [] h = absurd cc
named_text term path (atom ∷ atoms) h =
    by_either (names_text term path atom) (list_any (names_text term path) atoms) h
    (λ here. given_text term path (constants_of atom)
    (both_true (is_about term atom) (list_any (gives_text term path) (constants_of atom)) here).1)
    (named_text term path atoms)

texts_left : (term : Term) (path : Path) (atoms : List AtomOf) → AreAmong atoms path
    → (may_be term path None || list_any (names_text term path) atoms) ≡ has_value Text term path
texts_left term path atoms among =
    same_answer (may_be term path None || list_any (names_text term path) atoms) (has_value Text term path)
    (λ h. by_either (may_be term path None) (list_any (names_text term path) atoms) h
    (λ other. left_true (may_be term path None) _ other)
    (named_text term path atoms))
    (λ h. by_either (may_be term path None) (list_any (λ entry. names_text term path entry.0) path) h
    (λ other. left_true (may_be term path None) _ other)
    (λ named. right_true (may_be term path None) _ (among.each (names_text term path) named)))

-- ---- values

-- the first candidates, and then those that atoms name
two_parts : (path : Path) (kind : ColType) (term : Term) (atoms : List AtomOf) (first named : Bool)
    → list_any (is_left path) (always_tried kind term) ≡ first
    → list_any (is_left path) (flat_map (named_in kind term) atoms) ≡ named
    → list_any (is_left path) (values_of kind atoms term) ≡ (first || named)
two_parts path kind term atoms first named h k =
    list_any-append (is_left path) (always_tried kind term) (flat_map (named_in kind term) atoms)
    ∙ ap (λ (b : Bool). b || list_any (is_left path) (flat_map (named_in kind term) atoms)) h
    ∙ ap (λ (b : Bool). first || b) k

values_left : (kind : ColType) (term : Term) (path : Path) (atoms : List AtomOf) → AreAmong atoms path
    → list_any (is_left path) (values_of kind atoms term) ≡ has_value kind term path
values_left SmallInt term path atoms among =
    let range = range_of SmallInt term in
    two_parts path SmallInt term atoms (serves range term path range.least)
    (list_any (names_number range term path) atoms) (number_left path range term range.least)
    (all_named_left path SmallInt term (gives_number range term path) (small_left path term) atoms)
    ∙ numbers_left SmallInt range term path atoms among (λ number inside. inside) refl
values_left Integer term path atoms among =
    let range = range_of Integer term in
    two_parts path Integer term atoms (serves range term path range.least)
    (list_any (names_number range term path) atoms) (number_left path range term range.least)
    (all_named_left path Integer term (gives_number range term path) (integer_left path term) atoms)
    ∙ numbers_left Integer range term path atoms among (λ number inside. inside) refl
values_left BigInt term path atoms among =
    let range = range_of BigInt term in
    two_parts path BigInt term atoms (serves range term path range.least)
    (list_any (names_number range term path) atoms) (number_left path range term range.least)
    (all_named_left path BigInt term (gives_number range term path) (big_left path term) atoms)
    ∙ numbers_left BigInt range term path atoms among (λ number inside. inside) refl
values_left Boolean term path atoms among =
    two_parts path Boolean term atoms
    (may_be term path (Some (Truth true)) || may_be term path (Some (Truth false))) false
    (ap (λ (b : Bool). may_be term path (Some (Truth true)) || b) (or_false (may_be term path (Some (Truth false)))))
    (all_named_left path Boolean term (λ (constant : Constant). false) (truth_left path term) atoms
    ∙ no_any (λ (atom : AtomOf). is_about term atom && list_any (λ (constant : Constant). false) (constants_of atom))
    (λ atom. ap (λ (b : Bool). is_about term atom && b)
    (no_any (λ (constant : Constant). false) (λ constant. refl) (constants_of atom))
    ∙ and_false (is_about term atom)) atoms)
    ∙ or_false (may_be term path (Some (Truth true)) || may_be term path (Some (Truth false)))
values_left Text term path atoms among =
    two_parts path Text term atoms (may_be term path None) (list_any (names_text term path) atoms)
    (or_false (may_be term path None))
    (all_named_left path Text term (gives_text term path) (text_left path term) atoms)
    ∙ texts_left term path atoms among

-- ---- a term

null_left : (columns : List Column) (term : Term) (path : Path)
    → list_any (remains path) (null_of columns term) ≡ not (is_present columns (column_of term) path)
null_left columns term path = by_declared (is_declared columns (column_of term))
  where
    by_declared : (b : Bool) → list_any (remains path) (if b then [] else candidate term None ∷ [])
        ≡ not (b || is_found_present (column_of term) path)
    by_declared true = refl
    by_declared false = or_false (remains path (candidate term None)) ∙ null_remains path term

of_values : (term : Term) (candidates : List Candidate) → AreValues term candidates → AreOf term candidates
of_values term [] h = tt
of_values term (first ∷ rest) h =
    (ap (λ (found : Candidate). found.term) h.0.1, of_values term rest h.1)

of_null : (term : Term) (b : Bool) → AreOf term (if b then [] else candidate term None ∷ [])
of_null term true = tt
of_null term false = (refl, tt)

of_term : (columns : List Column) (atoms : List AtomOf) (term : Term)
    → AreOf term (candidates_of columns atoms term)
of_term columns atoms term =
    of_both term (null_of columns term) (values_of (kind_at columns (column_of term)) atoms term)
    (of_null term (is_declared columns (column_of term)))
    (of_values term (values_of (kind_at columns (column_of term)) atoms term)
    (are_values (kind_at columns (column_of term)) atoms term))

term_remains : (columns : List Column) (atoms : List AtomOf) (term : Term) (path : Path) → AreAmong atoms path
    → list_any (remains path) (candidates_of columns atoms term) ≡ not (is_empty columns term path)
term_remains columns atoms term path among =
    let kind = kind_at columns (column_of term) in
    list_any-append (remains path) (null_of columns term) (values_of kind atoms term)
    ∙ ap (λ (b : Bool). b || list_any (remains path) (values_of kind atoms term)) (null_left columns term path)
    ∙ ap (λ (b : Bool). not (is_present columns (column_of term) path) || b)
    (any_remains path term (values_of kind atoms term) (are_values kind atoms term)
    ∙ ap (λ (b : Bool). not (is_said_null (column_of term) path) && b) (values_left kind term path atoms among))
    ∙ turned (is_present columns (column_of term) path) (is_said_null (column_of term) path) (has_value kind term path)
  where
    turned : (p q s : Bool) → (not p || (not q && s)) ≡ not (p && (q || not s))
    turned false q s = refl
    turned true true s = refl
    turned true false true = refl
    turned true false false = refl

-- a candidate of the term remains exactly if the term has a value left
pub decided_by_candidates : (columns : List Column) (atoms : List AtomOf) (terms : List Term) (number : ℕ) (term : Term)
    (path : Path) → AreAmong atoms path → slice_get terms number ≡ Some term
    → list_any (λ candidate. remains path candidate && same_term candidate.term term)
    (candidates_in columns atoms terms) ≡ not (is_empty columns term path)
decided_by_candidates columns atoms terms number term path among there =
    any_flat_map (λ candidate. remains path candidate && same_term candidate.term term) (candidates_of columns atoms)
    terms
    ∙ any_alike
    (λ (other : Term). list_any (λ candidate. remains path candidate && same_term candidate.term term)
    (candidates_of columns atoms other))
    (λ (other : Term). list_any (remains path) (candidates_of columns atoms other) && same_term other term)
    (λ other. any_of_term (remains path) other term (candidates_of columns atoms other) (of_term columns atoms other))
    terms
    ∙ any_alone (λ (other : Term). list_any (remains path) (candidates_of columns atoms other)) terms number term there
    ∙ term_remains columns atoms term path among

-- A value that is found is left for the term.
use Rattle.std.proofs.Common.{◌≡◌, ℕ, suc, ◌+◌, ◌<◌, ℤ, pos, ◌+ℤ◌, true, false, ◌&&◌, ◌||◌, List, [], ◌∷◌, length, replicate, refl, ◌∙◌, ap, arith}
use Rattle.std.specs.Prelude.{Some, None, int_le}
use Rattle.std.specs.List.{list_any}
use Rattle.std.specs.Str.{bytes_eq}
use Rattle.std.proofs.lemmas.List.{length-replicate}
use Rattle.std.proofs.lemmas.Slice.Eq.{bytes_eq-Decides}
use Rattle.filter_tree.specs.Datum.{Constant, Number, Truth, Bytes}
use Rattle.filter_tree.specs.Expr.{AtomOf}
use Rattle.filter_tree.specs.Paths.{Path}
use Rattle.filter_tree.specs.declared.filter.Op.TheVariants.{Eq}
use Rattle.filter_tree.specs.declared.filter.Term.{Term}
use Rattle.filter_tree.specs.declared.table.ColType.{ColType}
use Rattle.filter_tree.specs.declared.table.ColType.TheVariants.{SmallInt, Integer, BigInt, Boolean, Text}
use Rattle.shard_checker.specs.Domain.{range_of, IsIn, IsInDomain}
use Rattle.shard_checker.specs.Facts.{compares, is_about, may_be}
use Rattle.shard_checker.specs.Candidates.{serves, constants_of, gives_number, names_number, has_named_number, has_number, gives_text, names_text, has_named_text, has_text, has_value}
use Rattle.shard_checker.specs.declared.domain.Range.{Range}
use Rattle.shard_checker.proofs.Testing.{two_false, by_either, not_true_false}
use Rattle.shard_checker.proofs.ValueLemmas.{test_le, has_constant, all_unnamed}
use Rattle.filter_tree.proofs.Tests.{both_true}

-- a constant of the term's domain that all that was found leaves
pub record HasConstant (kind : ColType) (term : Term) (path : Path) : Type 0 where
  pub value : Constant
  pub in_domain : IsInDomain kind term value
  pub left : may_be term path (Some value) ≡ true

-- ---- numbers

record HasServing (range : Range) (term : Term) (path : Path) : Type 0 where
  number : ℤ
  serving : serves range term path number ≡ true

serving_given : (range : Range) (term : Term) (path : Path) (constants : List Constant)
    → list_any (gives_number range term path) constants ≡ true → HasServing range term path
serving_given range term path [] h = absurd cc
serving_given range term path (Number k ∷ constants) h =
    by_either (serves range term path k || serves range term path (k +ℤ pos 1))
    (list_any (gives_number range term path) constants) h
    (λ nearby. by_either (serves range term path k) (serves range term path (k +ℤ pos 1)) nearby
    (λ here. record { number = k; serving = here })
    (λ next. record { number = k +ℤ pos 1; serving = next }))
    (λ there. serving_given range term path constants there)
serving_given range term path (Truth b ∷ constants) h = serving_given range term path constants h
serving_given range term path (Bytes s ∷ constants) h = serving_given range term path constants h

serving_named : (range : Range) (term : Term) (path : Path) (atom : AtomOf) → names_number range term path atom ≡ true
    → HasServing range term path
serving_named range term path atom h =
    let both = both_true (is_about term atom) (list_any (gives_number range term path) (constants_of atom)) h in
    serving_given range term path (constants_of atom) both.1

serving_in : (range : Range) (term : Term) (path part : Path) → has_named_number range term path part ≡ true
    → HasServing range term path
serving_in range term path [] h = absurd cc
serving_in range term path (entry ∷ part) h =
    by_either (names_number range term path entry.0) (has_named_number range term path part) h
    (λ here. serving_named range term path entry.0 here)
    (λ there. serving_in range term path part there)

some_serving : (range : Range) (term : Term) (path : Path) → has_number range term path ≡ true
    → HasServing range term path
some_serving range term path h =
    by_either (serves range term path range.least) (has_named_number range term path path) h
    (λ here. record { number = range.least; serving = here })
    (λ there. serving_in range term path path there)

number_exists : (kind : ColType) (term : Term) (path : Path)
    → ((number : ℤ) → IsIn (range_of kind term) number → IsInDomain kind term (Number number))
    → has_number (range_of kind term) term path ≡ true → HasConstant kind term path
number_exists kind term path domain h =
    let some = some_serving (range_of kind term) term path h in
    let both = both_true (int_le (range_of kind term).least some.number)
    (int_le some.number (range_of kind term).greatest && may_be term path (Some (Number some.number)))
    some.serving in
    let rest = both_true (int_le some.number (range_of kind term).greatest)
    (may_be term path (Some (Number some.number))) both.1 in
    record {
      value = Number some.number;
      in_domain = domain some.number (record { above_least = test_le _ _ both.0; below_greatest = test_le _ _ rest.0 });
      left = rest.1;
    }

-- ---- texts

abbrev text_length : Constant → ℕ
text_length (Bytes text) = length text
text_length constant = 0

abbrev constants_length : List Constant → ℕ
constants_length [] = 0
constants_length (constant ∷ constants) = text_length constant + constants_length constants

abbrev path_length : Path → ℕ
path_length [] = 0
path_length (entry ∷ path) = constants_length (constants_of entry.0) + path_length path

-- a longer text is a different text
longer_apart : (text named : List ℕ) → length named < length text → bytes_eq text named ≡ false
longer_apart text named h = not_true_false (bytes_eq text named)
    (λ same. let e : length text ≡ length named = ap length ((bytes_eq-Decides text named).0 same) in
    absurd (omega arith))

longer_constants : (text : List ℕ) (constants : List Constant) → constants_length constants < length text
    → list_any (compares Eq (Some (Bytes text))) constants ≡ false
longer_constants text [] long = refl
longer_constants text (Bytes named ∷ constants) long =
    let here : length named < length text = omega arith in
    let there : constants_length constants < length text = omega arith in
    two_false (bytes_eq text named) _ (longer_apart text named here) (longer_constants text constants there)
longer_constants text (Number k ∷ constants) long = longer_constants text constants (omega arith)
longer_constants text (Truth b ∷ constants) long = longer_constants text constants (omega arith)

-- no atom of a path names a text that is longer than all texts that they name
longer_path : (text : List ℕ) (path : Path) → path_length path < length text
    → list_any (λ entry. has_constant text entry.0) path ≡ false
longer_path text [] long = refl
longer_path text (entry ∷ path) long =
    let here : constants_length (constants_of entry.0) < length text = omega arith in
    let there : path_length path < length text = omega arith in
    two_false (has_constant text entry.0) _ (longer_constants text (constants_of entry.0) here)
    (longer_path text path there)

all_leave_longer : (term : Term) (text : List ℕ) (path : Path) → path_length path < length text
    → may_be term path None ≡ true → may_be term path (Some (Bytes text)) ≡ true
all_leave_longer term text path long h =
    all_unnamed term text (has_constant text) (λ atom unnamed about. unnamed) path (longer_path text path long) ∙ h

long_text : ℕ → List ℕ
long_text n = replicate (suc n) 97

long_text_is : (n : ℕ) → n < length (long_text n)
unfolding long_text
long_text_is n = omega (arith, length-replicate {A = ℕ} (suc n) 97)

record HasText (term : Term) (path : Path) : Type 0 where
  text : List ℕ
  left : may_be term path (Some (Bytes text)) ≡ true

text_given : (term : Term) (path : Path) (constants : List Constant)
    → list_any (gives_text term path) constants ≡ true → HasText term path
text_given term path [] h = absurd cc
text_given term path (Bytes text ∷ constants) h =
    by_either (may_be term path (Some (Bytes text))) (list_any (gives_text term path) constants) h
    (λ here. record { text = text; left = here })
    (λ there. text_given term path constants there)
text_given term path (Number k ∷ constants) h = text_given term path constants h
text_given term path (Truth b ∷ constants) h = text_given term path constants h

text_named : (term : Term) (path : Path) (atom : AtomOf) → names_text term path atom ≡ true → HasText term path
text_named term path atom h =
    let both = both_true (is_about term atom) (list_any (gives_text term path) (constants_of atom)) h in
    text_given term path (constants_of atom) both.1

text_in : (term : Term) (path part : Path) → has_named_text term path part ≡ true → HasText term path
text_in term path [] h = absurd cc
text_in term path (entry ∷ part) h = by_either (names_text term path entry.0) (has_named_text term path part) h
    (λ here. text_named term path entry.0 here)
    (λ there. text_in term path part there)

some_text : (term : Term) (path : Path) → has_text term path ≡ true → HasText term path
some_text term path h = by_either (may_be term path None) (has_named_text term path path) h
    (λ unnamed. record {
      text = long_text (path_length path);
      left =
          all_leave_longer term (long_text (path_length path)) path (long_text_is (path_length path)) unnamed;
    })
    (λ named. text_in term path path named)

-- ---- values

pub value_exists : (kind : ColType) (term : Term) (path : Path) → has_value kind term path ≡ true
    → HasConstant kind term path
value_exists SmallInt term path h = number_exists SmallInt term path (λ number inside. inside) h
value_exists Integer term path h = number_exists Integer term path (λ number inside. inside) h
value_exists BigInt term path h = number_exists BigInt term path (λ number inside. inside) h
value_exists Boolean term path h =
    by_either (may_be term path (Some (Truth true))) (may_be term path (Some (Truth false))) h
    (λ at_true. record { value = Truth true; in_domain = tt; left = at_true })
    (λ at_false. record { value = Truth false; in_domain = tt; left = at_false })
value_exists Text term path h = let some = some_text term path h in
    record { value = Bytes some.text; in_domain = tt; left = some.left }

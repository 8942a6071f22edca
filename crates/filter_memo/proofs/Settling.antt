-- The values of filters for rows in the same bucket, and in the same interval.
use Rattle.std.proofs.Common.{◌≡◌, ℕ, true, List, [], ◌∷◌, refl, sym, ap, subst, ◌∙◌}
use Rattle.std.specs.Prelude.{◌==◌, All}
use Rattle.std.proofs.lemmas.Bool.{eqb-true}
use Rattle.std.specs.List.Sorted.{IsSorted}
use Rattle.std.proofs.lemmas.List.Elements.{All-head, All-tail}
use Rattle.filter_tree.specs.Datum.{Constant, Datum, Known}
use Rattle.filter_tree.specs.Expr.{AtomOf, term_of, term_value, atom_meaning, said_of, Expr, Const, Atom, Not, And, Or, Is, meaning}
use Rattle.filter_tree.specs.Logic.{not_of, is_of}
use Rattle.filter_tree.specs.Order.{datum_cmp}
use Rattle.filter_tree.specs.Same.{same_term}
use Rattle.filter_tree.specs.declared.filter.Filter.{Filter}
use Rattle.filter_tree.specs.declared.filter.Term.{Term}
use Rattle.filter_tree.specs.declared.value.Value.{Value}
use Rattle.filter_tree.proofs.SameLemmas.{same_term_is}
use Rattle.filter_tree.proofs.Tests.{by_test, both_true}
use Rattle.filter_memo.specs.Covering.{has, has_constants, covers}
use Rattle.filter_memo.specs.Buckets.{value_cmp, kind_of}
use Rattle.filter_memo.specs.Telling.{part_at, numbered_value, IsSettled}
use Rattle.filter_memo.specs.declared.breakpoints.Breakpoints.{Breakpoints}
use Rattle.filter_memo.proofs.Alike.{atom_alike}
use Rattle.filter_memo.proofs.Sides.{same_side}
use Rattle.filter_memo.proofs.WithinInterval.{same_interval}

module _ {A : _} (term : Term) (bounds : List (Value A)) (one other : List Datum)
    (kind : kind_of (term_value term one) ≡ kind_of (term_value term other))
    (side : (k : Constant) → has bounds k ≡ true
    → datum_cmp (Known k) (term_value term one) ≡ datum_cmp (Known k) (term_value term other)) where
  -- the atom is of the term, and its constants are bounds
  atom_says : (atom : AtomOf) → same_term term (term_of atom) ≡ true → has_constants bounds atom ≡ true
      → atom_meaning atom one ≡ atom_meaning atom other
  atom_says atom same constants =
      let is : term ≡ term_of atom = same_term_is term (term_of atom) same in
      let v = term_value term one in
      let w = term_value term other in
      let said : said_of atom v ≡ said_of atom w =
      atom_alike bounds v w kind side atom constants in
      ap (λ t. said_of atom (term_value t one)) (sym is)
      ∙ (said ∙ ap (λ t. said_of atom (term_value t other)) is)

  filter_says : (filter : Expr) → covers term bounds filter ≡ true → meaning filter one ≡ meaning filter other
  filter_says (Const known) h = refl
  filter_says (Atom atom) h =
      let both = both_true (same_term term (term_of atom)) (has_constants bounds atom) h in
      atom_says atom both.0 both.1
  filter_says (Not part) h = ap not_of (filter_says part h)
  filter_says (And left right) h =
      let both = both_true (covers term bounds left) (covers term bounds right) h in
      let first = filter_says left both.0 in
      let second = filter_says right both.1 in
      rw (first, second) refl
  filter_says (Or left right) h =
      let both = both_true (covers term bounds left) (covers term bounds right) h in
      let first = filter_says left both.0 in
      let second = filter_says right both.1 in
      rw (first, second) refl
  filter_says (Is test part) h = ap (is_of test) (filter_says part h)

  -- covered filters have the same values for both rows
  values_alike : {B : _} (parts : List (Filter B)) (numbers : List ℕ)
      → All (λ number. covers term bounds (part_at parts number) ≡ true) numbers → (number : ℕ)
      → numbered_value parts numbers one number ≡ numbered_value parts numbers other number
  values_alike parts [] covered number = refl
  values_alike parts (own ∷ numbers) covered number =
      let later : numbered_value parts numbers one number ≡ numbered_value parts numbers other number =
      values_alike parts numbers
      (All-tail (λ n. covers term bounds (part_at parts n) ≡ true) own numbers covered) number in
      by_test (number == own)
      (λ here.
      let same : number ≡ own = eqb-true number own here in
      let said : meaning (part_at parts number) one ≡ meaning (part_at parts number) other =
      filter_says (part_at parts number) (subst (λ (n : ℕ). covers term bounds (part_at parts n) ≡ true) (sym same)
      (All-head (λ n. covers term bounds (part_at parts n) ≡ true) own numbers covered)) in
      rw here said)
      (λ apart. rw apart later)

pub breakpoints_settled : {B : _} (breakpoints : Breakpoints) (parts : List (Filter B))
    → IsSorted value_cmp breakpoints.bounds.items
    → All (λ number. covers breakpoints.term breakpoints.bounds.items (part_at parts number) ≡ true)
    breakpoints.numbers.items
    → IsSettled parts breakpoints
breakpoints_settled breakpoints parts sorted covered = record {
  same = λ one other bucket said at_one at_other values. record {
    each = λ number within. values.each number within
        ∙ values_alike breakpoints.term breakpoints.bounds.items one other (sym at_one.kind ∙ at_other.kind)
        (same_side breakpoints.bounds.items sorted (term_value breakpoints.term one) (term_value breakpoints.term other)
        bucket at_one at_other) parts breakpoints.numbers.items covered number;
  };
  alike = λ one other low high said alike at_one at_other values. record {
    each = λ number within. values.each number within
        ∙ values_alike breakpoints.term breakpoints.bounds.items one other
        (ap kind_of at_one.is ∙ sym (ap kind_of at_other.is))
        (same_interval breakpoints.bounds.items (term_value breakpoints.term one) (term_value breakpoints.term other)
        low high alike at_one at_other) parts breakpoints.numbers.items covered number;
  };
}

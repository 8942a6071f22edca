-- A filter is determined by its text before a parenthesis.
use Rattle.std.proofs.Common.{◌≡◌, ℕ, List, ◌∷◌, ◌++◌, refl, sym, ap, ◌∙◌}
use Rattle.std.specs.Prelude.{codes}
use Rattle.std.specs.List.{IsDistinct, AllByRecursion}
use Rattle.std.specs.Str.{bytes_eq}
use Rattle.filter_tree.specs.Expr.{AtomOf, Cmp, IsNull, In, Between, Distinct, Expr, Const, Atom, Not, And, Or, Is}
use Rattle.filter_tree.specs.declared.table.Column.{Column}
use Rattle.catalog_laws.proofs.ChainTexts.{first_and, more_ands, first_or, more_ors, ands_filter, ors_filter, ands_back, ors_back, all_more, first_and_fits, more_ands_fit, first_or_fits, more_ors_fit, item_level, and_level, or_level, text_of_ands, text_of_ors}
use Rattle.catalog_laws.proofs.ColumnTexts.{names_of}
use Rattle.catalog_laws.proofs.FilterParts.{primary_of, negation_of, item_of, item_filter, item_back, item_fits, text_of_item}
use Rattle.catalog_laws.proofs.Followers.{begins_not, FollowsItem, FollowsAnd, FollowsOr}
use Rattle.catalog_laws.proofs.ItemTexts.{IsFit, ApartAsItem, ApartAsAnd, ApartAsOr, IsApartPrimary, IsApartItem, closed_follows, items_apart}
use Rattle.catalog_laws.proofs.JoinedTexts.{some_apart}
use Rattle.catalog_laws.proofs.QuotedTexts.{Same, tail_is}

-- ---- what follows a part before AND or OR

and_follows : (z : List ℕ) → FollowsItem (codes " AND " ++ z)
and_follows z = record { ended = record { digit = refl; single = refl; double = refl }; is = refl }

or_follows : (z : List ℕ) → FollowsAnd (codes " OR " ++ z)
or_follows z = record {
  item = record { ended = record { digit = refl; single = refl; double = refl }; is = refl };
  and = refl;
}

module _ (columns : List Column) (named : IsDistinct bytes_eq (names_of columns)) where
  -- what is known of a filter and of its parts
  record HasApartParts (one : Expr) : Type 0 where
    item : ApartAsItem columns one
    negation : IsApartItem columns (negation_of one)
    first_item : ApartAsItem columns (first_and one)
    more_items : AllByRecursion (ApartAsItem columns) (more_ands one)
    conjunction : ApartAsAnd columns one
    first_conjunction : ApartAsAnd columns (first_or one)
    more_conjunctions : AllByRecursion (ApartAsAnd columns) (more_ors one)
    disjunction : ApartAsOr columns one

  item_apart : (one : Expr) → IsFit columns one → IsApartItem columns (item_of one) → ApartAsItem columns one
  item_apart one fit apart other x y fit_too f g e =
      let found = items_apart columns named (item_of one) (item_of other) x y (item_fits columns one fit)
      (item_fits columns other fit_too) apart f g
      (ap (λ (text : List ℕ). text ++ x) (sym (text_of_item columns one)) ∙ e
      ∙ ap (λ (text : List ℕ). text ++ y) (text_of_item columns other)) in
      (sym (item_back one) ∙ ap item_filter found.0 ∙ item_back other, found.1)

  and_apart : (one : Expr) → ApartAsItem columns (first_and one) → AllByRecursion (ApartAsItem columns) (more_ands one)
      → ApartAsAnd columns one
  and_apart one apart more_apart other x y fit f g e =
      let found = some_apart (ApartAsItem columns) (IsFit columns) (item_level columns) (codes " AND ") FollowsItem
      FollowsAnd (λ a b v w a_apart fit_b. a_apart b v w fit_b)
      (λ item z. and_follows (item_level columns item ++ z)) (λ v h. h.item)
      (λ item v z known h. begins_not 65 v (codes " AND " ++ (item_level columns item ++ z)) h.and refl)
      (λ item v z known h. begins_not 65 v (codes " AND " ++ (item_level columns item ++ z)) h.and refl)
      (first_and one) (first_and other) (more_ands one) (more_ands other) x y apart more_apart
      (first_and_fits columns other fit) (more_ands_fit columns other fit) f g
      (ap (λ (text : List ℕ). text ++ x) (sym (text_of_ands columns one)) ∙ e
      ∙ ap (λ (text : List ℕ). text ++ y) (text_of_ands columns other)) in
      (sym (ands_back one) ∙ ap ands_filter found.0 ∙ ands_back other, found.1)

  or_apart : (one : Expr) → ApartAsAnd columns (first_or one) → AllByRecursion (ApartAsAnd columns) (more_ors one)
      → ApartAsOr columns one
  or_apart one apart more_apart other x y fit f g e =
      let found = some_apart (ApartAsAnd columns) (IsFit columns) (and_level columns) (codes " OR ") FollowsAnd
      FollowsOr (λ a b v w a_apart fit_b. a_apart b v w fit_b)
      (λ item z. or_follows (and_level columns item ++ z)) (λ v h. h.conjunction)
      (λ item v z known h. begins_not 79 v (codes " OR " ++ (and_level columns item ++ z)) h.or refl)
      (λ item v z known h. begins_not 79 v (codes " OR " ++ (and_level columns item ++ z)) h.or refl)
      (first_or one) (first_or other) (more_ors one) (more_ors other) x y apart more_apart
      (first_or_fits columns other fit) (more_ors_fit columns other fit) f g
      (ap (λ (text : List ℕ). text ++ x) (sym (text_of_ors columns one)) ∙ e
      ∙ ap (λ (text : List ℕ). text ++ y) (text_of_ors columns other)) in
      (sym (ors_back one) ∙ ap ors_filter found.0 ∙ ors_back other, found.1)

  -- ---- by induction

  primary_apart : (one : Expr) → ApartAsOr columns one → IsApartPrimary columns (primary_of one)
  primary_apart (Const truth) apart = tt
  primary_apart (Atom (Cmp term op constant)) apart = tt
  primary_apart (Atom (IsNull column)) apart = apart
  primary_apart (Atom (In term constants)) apart = tt
  primary_apart (Atom (Between term low high)) apart = tt
  primary_apart (Atom (Distinct term constant)) apart = apart
  primary_apart (Not (Atom (Cmp term op constant))) apart = apart
  primary_apart (Not (Atom (IsNull column))) apart = apart
  primary_apart (Not (Atom (In term constants))) apart = tt
  primary_apart (Not (Atom (Between term low high))) apart = tt
  primary_apart (Not (Atom (Distinct term constant))) apart = apart
  primary_apart (Not (Const truth)) apart = apart
  primary_apart (Not (Not part)) apart = apart
  primary_apart (Not (And left right)) apart = apart
  primary_apart (Not (Or left right)) apart = apart
  primary_apart (Not (Is test part)) apart = apart
  primary_apart (And left right) apart = apart
  primary_apart (Or left right) apart = apart
  primary_apart (Is test part) apart = apart

  atom_apart : (atom : AtomOf) → IsApartItem columns (item_of (Atom atom))
  atom_apart (Cmp term op constant) = tt
  atom_apart (IsNull column) = tt
  atom_apart (In term constants) = tt
  atom_apart (Between term low high) = tt
  atom_apart (Distinct term constant) = tt

  negated_atom_apart : (atom : AtomOf) → ApartAsItem columns (Atom atom) → IsApartItem columns (negation_of (Atom atom))
  negated_atom_apart (Cmp term op constant) apart = apart
  negated_atom_apart (IsNull column) apart = tt
  negated_atom_apart (In term constants) apart = tt
  negated_atom_apart (Between term low high) apart = tt
  negated_atom_apart (Distinct term constant) apart = tt

  -- a filter that is its own first part at each level
  alone : (one : Expr) → (ApartAsItem columns one → ApartAsItem columns (first_and one))
      → AllByRecursion (ApartAsItem columns) (more_ands one)
      → (ApartAsAnd columns one → ApartAsAnd columns (first_or one))
      → AllByRecursion (ApartAsAnd columns) (more_ors one) → ApartAsItem columns one
      → IsApartItem columns (negation_of one) → HasApartParts one
  alone one first more_items first_conjunction more_conjunctions item negation =
      let conjunction = and_apart one (first item) more_items in
      record {
        item = item;
        negation = negation;
        first_item = first item;
        more_items = more_items;
        conjunction = conjunction;
        first_conjunction = first_conjunction conjunction;
        more_conjunctions = more_conjunctions;
        disjunction = or_apart one (first_conjunction conjunction) more_conjunctions;
      }

  filter_apart : (one : Expr) → IsFit columns one → HasApartParts one
  filter_apart (Const truth) fit =
      let item = item_apart (Const truth) fit tt in
      alone (Const truth) (λ h. h) tt (λ h. h) tt item item
  filter_apart (Atom atom) fit =
      let item = item_apart (Atom atom) fit (atom_apart atom) in
      alone (Atom atom) (λ h. h) tt (λ h. h) tt item (negated_atom_apart atom item)
  filter_apart (Not part) fit =
      let item = item_apart (Not part) fit (filter_apart part fit).negation in
      alone (Not part) (λ h. h) tt (λ h. h) tt item item
  filter_apart (Is test part) fit =
      let inner = primary_apart part (filter_apart part fit).disjunction in
      let item = item_apart (Is test part) fit inner in
      alone (Is test part) (λ h. h) tt (λ h. h) tt item inner
  filter_apart (And left right) fit =
      let one = And left right in
      let first = filter_apart left fit.0 in
      let more = all_more (ApartAsItem columns) (more_ands left) right first.more_items
      (filter_apart right fit.1).item in
      let conjunction = and_apart one first.first_item more in
      let disjunction = or_apart one conjunction tt in
      let item = item_apart one fit disjunction in
      record {
        item = item;
        negation = item;
        first_item = first.first_item;
        more_items = more;
        conjunction = conjunction;
        first_conjunction = conjunction;
        more_conjunctions = tt;
        disjunction = disjunction;
      }
  filter_apart (Or left right) fit =
      let one = Or left right in
      let first = filter_apart left fit.0 in
      let more = all_more (ApartAsAnd columns) (more_ors left) right first.more_conjunctions
      (filter_apart right fit.1).conjunction in
      let disjunction = or_apart one first.first_conjunction more in
      let item = item_apart one fit disjunction in
      record {
        item = item;
        negation = item;
        first_item = item;
        more_items = tt;
        conjunction = and_apart one item tt;
        first_conjunction = first.first_conjunction;
        more_conjunctions = more;
        disjunction = disjunction;
      }

  pub fit_filters_apart : (one other : Expr) (x y : List ℕ) → IsFit columns one → IsFit columns other
      → or_level columns one ++ (41 ∷ x) ≡ or_level columns other ++ (41 ∷ y) → Same one other x y
  fit_filters_apart one other x y fit fit_too e =
      let found = (filter_apart one fit).disjunction other (41 ∷ x) (41 ∷ y) fit_too (closed_follows x)
      (closed_follows y) e in
      (found.0, tail_is 41 41 x y found.1)

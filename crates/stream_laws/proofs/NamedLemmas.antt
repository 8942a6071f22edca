-- Each subscriber of a catalog can request its stream: its subscription is found by its name, and takes publications
-- that exist.
use Rattle.std.proofs.Common.{◌≡◌, ℕ, zero, suc, ◌+◌, ◌<◌, ◌≤◌, Bool, true, false, ◌||◌, List, [], ◌∷◌, All, length, map, get_or, refl, sym, ap, subst, ◌∙◌, arith}
use Rattle.std.specs.Prelude.{nat_eq, nat_lt, position, slice_get, Some}
use Rattle.std.specs.Cmp.{IsEquivalence, decided}
use Rattle.std.specs.List.{IsDistinct, list_any, position_or_len}
use Rattle.std.specs.Str.{bytes_eq}
use Rattle.std.proofs.lemmas.Bool.{eqb-true}
use Rattle.std.proofs.lemmas.Bool.Decides.{nat_tests}
use Rattle.std.proofs.lemmas.List.{length-map, get_or-map}
use Rattle.std.proofs.lemmas.List.Elements.{All-head, All-tail, All-get_or}
use Rattle.std.proofs.lemmas.Map.Keys.{IsDistinct-tail, apart_from_distinct}
use Rattle.std.proofs.lemmas.Map.Steps.{length-le_from_distinct_below}
use Rattle.std.proofs.lemmas.Option.{slice_get_within, get_or_from_slice_get}
use Rattle.std.proofs.lemmas.Slice.Eq.{bytes_eq-Decides}
use Rattle.filter_tree.specs.Expr.{Expr}
use Rattle.pub_catalog.proofs.Positions.{position-map}
use Rattle.pub_catalog.specs.CatalogLimits.{IsPlainName}
use Rattle.pub_catalog.specs.CatalogNames.{AreTaken, TakesKnown, IsNamedCatalog}
use Rattle.pub_catalog.specs.Catalogs.{CatalogOf}
use Rattle.pub_catalog.specs.declared.catalog.Subscription.{Subscription}
use Rattle.stream_laws.specs.Asking.{CanAsk}

-- ---- found by its name

same_bytes : IsEquivalence bytes_eq
same_bytes = decided bytes_eq bytes_eq-Decides

-- if no two names are the same, none before a name equals it
first_at : (names : List (List ℕ)) (number : ℕ) (d : List ℕ) → IsDistinct bytes_eq names → number < length names
    → position_or_len (bytes_eq (get_or names number d)) names ≡ number
first_at [] number d differ within = absurd (omega (arith, within))
first_at (name ∷ names) zero d differ within = rw (same_bytes.refl name) refl
first_at (name ∷ names) (suc number) d differ within =
    let apart : bytes_eq name (get_or names number d) ≡ false =
    apart_from_distinct bytes_eq (name ∷ names) 0 (suc number) d differ (omega arith) within in
    let misses : bytes_eq (get_or names number d) name ≡ false = same_bytes.symm (get_or names number d) name ∙ apart in
    let later = first_at names number d (IsDistinct-tail bytes_eq name names differ) (omega (arith, within)) in
    let more : position_or_len (bytes_eq (get_or names number d)) (name ∷ names)
    ≡ 1 + position_or_len (bytes_eq (get_or names number d)) names = rw misses refl in
    omega (arith, more, later)

is_found : (names : List (List ℕ)) (number : ℕ) (d : List ℕ) → IsDistinct bytes_eq names → number < length names
    → position (bytes_eq (get_or names number d)) names ≡ Some number
is_found names number d differ within =
    let less : nat_lt number (length names) ≡ true = grind (arith, nat_tests) in
    rw (first_at names number d differ within, less) refl

-- ---- few publications

member_below : (count q : ℕ) (numbers : List ℕ) → All (λ number. number < count) numbers
    → list_any (nat_eq q) numbers ≡ true → q < count
member_below count q [] all e = absurd cc
member_below count q (number ∷ numbers) all e =
    either (nat_eq q number) (list_any (nat_eq q) numbers) e
    (λ same. let is = eqb-true q number same in omega (arith, is, All-head (λ n. n < count) number numbers all))
    (λ later. member_below count q numbers (All-tail (λ n. n < count) number numbers all) later)
  where
    either : {P : Type 0} (one other : Bool) → (one || other) ≡ true → (one ≡ true → P) → (other ≡ true → P) → P
    either true other h at_one at_other = at_one refl
    either false other h at_one at_other = at_other h

-- each once, so there are no more of them than exist
pub few_taken : (count : ℕ) (numbers : List ℕ) → AreTaken count numbers → length numbers ≤ count
few_taken count numbers taken =
    length-le_from_distinct_below numbers count taken.once (λ q. member_below count q numbers taken.known)

-- ---- a subscriber

module _ (catalog : CatalogOf Expr) (named : IsNamedCatalog catalog) where
  abbrev names : List (List ℕ)
  names = map (λ (s : Subscription). s.name) catalog.subscriptions

  pub its_taken : (subscriber : ℕ) (subscription : Subscription)
      → slice_get catalog.subscriptions subscriber ≡ Some subscription
      → AreTaken (length catalog.publications) subscription.publications
  its_taken subscriber subscription there =
      subst (TakesKnown (length catalog.publications))
      (get_or_from_slice_get catalog.subscriptions subscriber subscription subscription there)
      (named.taken subscriber subscription (slice_get_within catalog.subscriptions subscriber subscription there))

  name_is : (subscriber : ℕ) (subscription : Subscription)
      → slice_get catalog.subscriptions subscriber ≡ Some subscription
      → get_or names subscriber [] ≡ subscription.name
  name_is subscriber subscription there =
      get_or-map (λ (s : Subscription). s.name) catalog.subscriptions subscriber subscription []
      (slice_get_within catalog.subscriptions subscriber subscription there)
      ∙ ap (λ (s : Subscription). s.name)
      (get_or_from_slice_get catalog.subscriptions subscriber subscription subscription there)

  pub can_ask : (subscriber : ℕ) (subscription : Subscription)
      → slice_get catalog.subscriptions subscriber ≡ Some subscription → CanAsk catalog subscriber subscription
  can_ask subscriber subscription there =
      let within : subscriber < length names =
      omega (
        arith,
        slice_get_within catalog.subscriptions subscriber subscription there,
        length-map catalog.subscriptions (λ (s : Subscription). s.name),
      ) in
      let its = name_is subscriber subscription there in
      let taken = its_taken subscriber subscription there in
      record {
        is_there = there;
        found = sym (position-map (bytes_eq subscription.name) (λ (s : Subscription). s.name) catalog.subscriptions)
            ∙ subst (λ name. position (bytes_eq name) names ≡ Some subscriber) its
            (is_found names subscriber [] named.subscriptions.differ within);
        named = subst IsPlainName its (All-get_or IsPlainName names subscriber [] within named.subscriptions.plain);
        some = taken.some;
        known = taken.known;
        publications = named.publications.plain;
      }

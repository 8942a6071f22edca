-- CREATE PUBLICATION and CREATE SUBSCRIPTION preserve that each has its own name, and that a subscription's
-- publications exist.
use Rattle.std.proofs.Common.{◌≡◌, ℕ, ◌<◌, ◌≤◌, Bool, true, false, ◌==◌, List, [], ◌∷◌, ◌++◌, All, length, map, refl, sym, ap, subst, ◌∙◌, arith}
use Rattle.std.specs.Prelude.{nat_eq, nat_le, position, Option, Some, None, Ok, Err}
use Rattle.std.specs.Cmp.{IsEquivalence, decided, nat_eq_equiv}
use Rattle.std.specs.List.{IsDistinct, list_any}
use Rattle.std.specs.Str.{bytes_eq}
use Rattle.std.proofs.lemmas.Bool.Decides.{nat_tests}
use Rattle.std.proofs.lemmas.List.{length_push, length-map, map-append}
use Rattle.std.proofs.lemmas.List.Elements.{All-nil, All-push}
use Rattle.std.proofs.lemmas.List.Quantifiers.{position-Some}
use Rattle.std.proofs.lemmas.Map.Keys.{IsDistinct-push}
use Rattle.std.proofs.lemmas.Slice.Eq.{bytes_eq-Decides}
use Rattle.filter_tree.specs.declared.table.Table.{Table}
use Rattle.sql_tokens.specs.PlainNames.{IsPlainName}
use Rattle.sql_reader.specs.declared.error.Limit.{Limit}
use Rattle.sql_reader.specs.declared.error.Limit.TheVariants.{Publications, Subscriptions}
use Rattle.sql_reader.specs.declared.item.Item.TheVariants as i
use Rattle.sql_reader.specs.declared.name.PlacedName.{PlacedName}
use Rattle.sql_reader.specs.declared.word.Keyword.TheVariants as k
use Rattle.sql_reader.specs.Expressions.{Forms}
use Rattle.sql_reader.specs.Items.{Items}
use Rattle.sql_reader.specs.Names.{name}
use Rattle.sql_reader.specs.Reading.{Outcome, with_rest, expect}
use Rattle.sql_reader.specs.Repetitions.{link}
use Rattle.sql_reader.proofs.Keeping.{Gives, any-gives, then-gives, repeat-gives, link-gives}
use Rattle.sql_reader.proofs.Leaving.{Leaves, then-leaves}
use Rattle.sql_reader.proofs.PlainNames.{ArePlain, NamesPlain, name-plain}
use Rattle.pub_catalog.specs.declared.catalog.Subscription.{Subscription}
use Rattle.pub_reader.specs.declared.parameter.Given.{Given}
use Rattle.pub_catalog.specs.CatalogLimits.{IsNamed}
use Rattle.pub_catalog.specs.CatalogNames.{AreOwnNames, AreTaken, TakesKnown, IsNamedCatalog}
use Rattle.pub_reader.specs.DraftNames.{IsNamedDraft}
use Rattle.pub_catalog.specs.Catalogs.{PublicationOf}
use Rattle.pub_reader.specs.Drafts.{CoverageOf, DraftPublicationOf, DraftOf, no_draft, find_publication, find_subscription, resolved, resolved_publication}
use Rattle.pub_reader.specs.Publications.{check_new_publication, new_publication_name, for_clause, published, with_publication, create_publication}
use Rattle.pub_reader.specs.Publishing.{parameters_clause}
use Rattle.pub_reader.specs.Schemas.{fresh}
use Rattle.pub_reader.specs.Subscriptions.{check_new_subscription, new_subscription_name, once, subscribed, one_publication, publication_list, subscription_tail, subscription_body, create_subscription}
use Rattle.filter_tree.proofs.Tests.{by_test}
use Rattle.pub_reader.proofs.Positions.{position-none, list_any-map}

-- the fact holds for what is read, whatever is left
pub first_of : {A : Type 0} (P : A → Type 0) (read : Outcome A) → Leaves (λ a ts. P a) read → Gives P read
first_of P (Ok read) h = h
first_of P (Err fault) h = tt

-- ---- one more name

pub same_bytes : IsEquivalence bytes_eq
same_bytes = decided bytes_eq bytes_eq-Decides

own_none : AreOwnNames []
unfolding IsDistinct
own_none = record { plain = All-nil IsPlainName; differ = tt }

own_push : {A : Type 0} (name_of : A → List ℕ) (xs : List A) (x : A) → AreOwnNames (map name_of xs)
    → IsPlainName (name_of x) → position (λ y. bytes_eq (name_of x) (name_of y)) xs ≡ None
    → AreOwnNames (map name_of (xs ++ x ∷ []))
own_push name_of xs x own plain free =
    let none : list_any (bytes_eq (name_of x)) (map name_of xs) ≡ false =
    list_any-map (bytes_eq (name_of x)) name_of xs ∙ position-none (λ y. bytes_eq (name_of x) (name_of y)) xs free in
    subst AreOwnNames (sym (map-append name_of xs (x ∷ [])))
    (record {
      plain = All-push IsPlainName (map name_of xs) (name_of x) own.plain plain;
      differ = IsDistinct-push same_bytes (map name_of xs) (name_of x) own.differ none;
    })

-- a name is plain, and the search for it finds nothing
abbrev IsNew : (List ℕ → Option ℕ) → PlacedName → Type 0
IsNew find called = IsPlainName called.text × (find called.text ≡ None)

fresh-leaves : (called : PlacedName) (found : Option ℕ) (is_full : Bool) (limit : Limit) (ts : Items)
    → Leaves (λ (u : Unit {0}) ts2. found ≡ None) (with_rest (fresh called found is_full limit) ts)
fresh-leaves called None true limit ts = tt
fresh-leaves called None false limit ts = refl
fresh-leaves called (Some number) is_full limit ts = tt

-- ---- CREATE PUBLICATION

check_new_publication-leaves : {S : Type 0} (draft : DraftOf S) (called : PlacedName) (ts : Items)
    → Leaves (λ (u : Unit {0}) ts2. find_publication called.text draft.publications ≡ None)
    (with_rest (check_new_publication draft called) ts)
unfolding check_new_publication
check_new_publication-leaves draft called ts =
    fresh-leaves called (find_publication called.text draft.publications) (nat_le 64 (length draft.publications))
    Publications ts

publication_name-new : {S : Type 0} (draft : DraftOf S) (ts : Items) → ArePlain ts
    → Leaves (λ called ts2. IsNew (λ text. find_publication text draft.publications) called)
    (new_publication_name draft ts)
unfolding new_publication_name
publication_name-new {S} draft ts h =
    let new : PlacedName → Items → Type 0 =
    λ called ts2. IsNew (λ text. find_publication text draft.publications) called in
    then-leaves NamesPlain new (name ts) _ (name-plain ts h) (λ called ts2 named.
    then-leaves (λ (u : Unit {0}) ts3. find_publication called.text draft.publications ≡ None) new
    (with_rest (check_new_publication draft called) ts2) _ (check_new_publication-leaves draft called ts2)
    (λ u ts3 free. (named.0, free)))

more_taken : (subscriptions : List Subscription) (count more : ℕ) → count ≤ more
    → All (TakesKnown count) subscriptions → All (TakesKnown more) subscriptions
more_taken subscriptions count more le all = λ n d low. let taken = all n d low in
    record { some = taken.some; once = taken.once; known = λ m e below. omega (arith, taken.known m e below, le) }

with_publication-named : {S : Type 0} (draft : DraftOf S) (called : PlacedName) (coverage : CoverageOf S)
    (given : Given) → IsNew (λ text. find_publication text draft.publications) called
    → IsNamedDraft draft → IsNamedDraft (with_publication draft called coverage given)
with_publication-named {S} draft called coverage given new named =
    let one : DraftPublicationOf S =
    record { name = called.text; publishes = published given.publishes; coverage = coverage } in
    record {
      tables = named.tables;
      publications = own_push (λ (p : DraftPublicationOf S). p.name) draft.publications one named.publications new.0
          new.1;
      subscriptions = named.subscriptions;
      taken = more_taken draft.subscriptions (length draft.publications) (length (draft.publications ++ one ∷ []))
          (omega (arith, length_push draft.publications one)) named.taken;
    }

pub create_publication-named : {S : Type 0} (forms : Forms S) (draft : DraftOf S) (ts : Items) → ArePlain ts
    → IsNamedDraft draft → Gives IsNamedDraft (create_publication forms draft ts)
unfolding create_publication
create_publication-named forms draft ts h named =
    let new : PlacedName → Type 0 = IsNew (λ text. find_publication text draft.publications) in
    then-gives new IsNamedDraft (new_publication_name draft ts) _ (first_of new _ (publication_name-new draft ts h))
    (λ called ts2 is_new.
    any-gives IsNamedDraft (for_clause forms draft ts2) _ (λ coverage ts3.
    any-gives IsNamedDraft (parameters_clause ts3) _
    (λ given ts4. with_publication-named draft called coverage given is_new named)))

-- ---- the publications of a subscription

-- each once, and each exists
abbrev AreKnown : ℕ → List ℕ → Type 0
AreKnown count numbers = IsDistinct nat_eq numbers × All (λ number. number < count) numbers

none_known : (count : ℕ) → AreKnown count []
unfolding IsDistinct
none_known count = (tt, All-nil (λ number. number < count))

pub turned_any : (number : ℕ) (numbers : List ℕ) → list_any (nat_eq number) numbers ≡ list_any (λ n. n == number) numbers
turned_any number [] = refl
turned_any number (n ∷ numbers) = rw (turned number n, turned_any number numbers) refl
  where
    turned : (one other : ℕ) → nat_eq one other ≡ (other == one)
    turned one other = grind (arith, nat_tests)

-- a number that exists and is not yet taken
abbrev IsFree : ℕ → List ℕ → ℕ → Type 0
IsFree count numbers number = (number < count) × (list_any (λ n. n == number) numbers ≡ false)

once-gives : (count : ℕ) (numbers : List ℕ) (called : PlacedName) (found : Option ℕ) (ts : Items)
    → ((number : ℕ) → found ≡ Some number → number < count)
    → Gives (IsFree count numbers) (with_rest (once numbers called found) ts)
once-gives count numbers called None ts within = tt
once-gives count numbers called (Some number) ts within =
    by_test (list_any (λ n. n == number) numbers) (λ e. rw e tt) (λ e. rw e (within number refl, e))

subscribed-gives : {S : Type 0} (draft : DraftOf S) (numbers : List ℕ) (called : PlacedName) (ts : Items)
    → Gives (IsFree (length draft.publications) numbers) (with_rest (subscribed draft numbers called) ts)
unfolding subscribed
subscribed-gives {S} draft numbers called ts =
    once-gives (length draft.publications) numbers called (find_publication called.text draft.publications) ts
    (λ number found. below draft.publications number found)
  where
    below : (publications : List (DraftPublicationOf S)) (number : ℕ)
        → find_publication called.text publications ≡ Some number → number < length publications
    below [] number found = absurd cc
    below (publication ∷ publications) number found =
        (position-Some (λ p. bytes_eq called.text p.name) (publication ∷ publications) number publication found).0

one_publication-gives : {S : Type 0} (draft : DraftOf S) (numbers : List ℕ) (ts : Items)
    → AreKnown (length draft.publications) numbers
    → Gives (AreTaken (length draft.publications)) (one_publication draft numbers ts)
unfolding one_publication
one_publication-gives draft numbers ts h =
    let count = length draft.publications in
    any-gives (AreTaken count) (name ts) _ (λ called ts2.
    then-gives (IsFree count numbers) (AreTaken count) (with_rest (subscribed draft numbers called) ts2) _
    (subscribed-gives draft numbers called ts2) (λ number ts3 free.
    record {
      some = omega (arith, length_push numbers number);
      once = IsDistinct-push nat_eq_equiv numbers number h.0 (turned_any number numbers ∙ free.1);
      known = All-push (λ n. n < count) numbers number h.1 free.0;
    }))

publication_list-gives : {S : Type 0} (draft : DraftOf S) (ts : Items)
    → Gives (AreTaken (length draft.publications)) (publication_list draft ts)
unfolding publication_list
publication_list-gives draft ts =
    let count = length draft.publications in
    then-gives (AreTaken count) (AreTaken count) (one_publication draft [] ts) _
    (one_publication-gives draft [] ts (none_known count)) (λ numbers ts2 taken.
    repeat-gives (AreTaken count) (link i.Comma (one_publication draft))
    (link-gives (AreTaken count) i.Comma (one_publication draft)
    (λ others ts3 h. one_publication-gives draft others ts3 (h.once, h.known))) numbers ts2 taken)

subscription_body-gives : {S : Type 0} (draft : DraftOf S) (ts : Items)
    → Gives (AreTaken (length draft.publications)) (subscription_body draft ts)
unfolding subscription_body
subscription_body-gives draft ts =
    let count = length draft.publications in
    any-gives (AreTaken count) (expect (i.Keyword k.Connection) ts) _ (λ a ts2.
    any-gives (AreTaken count) (expect i.Text ts2) _ (λ b ts3.
    any-gives (AreTaken count) (expect (i.Keyword k.Publication) ts3) _ (λ c ts4.
    then-gives (AreTaken count) (AreTaken count) (publication_list draft ts4) _ (publication_list-gives draft ts4)
    (λ numbers ts5 taken.
    any-gives (AreTaken count) (subscription_tail ts5) _ (λ d ts6. taken)))))

-- ---- CREATE SUBSCRIPTION

check_new_subscription-leaves : {S : Type 0} (draft : DraftOf S) (called : PlacedName) (ts : Items)
    → Leaves (λ (u : Unit {0}) ts2. find_subscription called.text draft.subscriptions ≡ None)
    (with_rest (check_new_subscription draft called) ts)
unfolding check_new_subscription
check_new_subscription-leaves draft called ts =
    fresh-leaves called (find_subscription called.text draft.subscriptions) (nat_le 32 (length draft.subscriptions))
    Subscriptions ts

subscription_name-new : {S : Type 0} (draft : DraftOf S) (ts : Items) → ArePlain ts
    → Leaves (λ called ts2. IsNew (λ text. find_subscription text draft.subscriptions) called)
    (new_subscription_name draft ts)
unfolding new_subscription_name
subscription_name-new draft ts h =
    let new : PlacedName → Items → Type 0 =
    λ called ts2. IsNew (λ text. find_subscription text draft.subscriptions) called in
    then-leaves NamesPlain new (name ts) _ (name-plain ts h) (λ called ts2 named.
    then-leaves (λ (u : Unit {0}) ts3. find_subscription called.text draft.subscriptions ≡ None) new
    (with_rest (check_new_subscription draft called) ts2) _ (check_new_subscription-leaves draft called ts2)
    (λ u ts3 free. (named.0, free)))

with_subscription-named : {S : Type 0} (draft : DraftOf S) (called : PlacedName) (numbers : List ℕ)
    → IsNew (λ text. find_subscription text draft.subscriptions) called
    → AreTaken (length draft.publications) numbers → IsNamedDraft draft
    → IsNamedDraft (record draft
    { subscriptions = draft.subscriptions ++ record { name = called.text; publications = numbers } ∷ [] })
with_subscription-named draft called numbers new taken named =
    let one : Subscription = record { name = called.text; publications = numbers } in
    record {
      tables = named.tables;
      publications = named.publications;
      subscriptions = own_push (λ (s : Subscription). s.name) draft.subscriptions one named.subscriptions new.0 new.1;
      taken = All-push (TakesKnown (length draft.publications)) draft.subscriptions one named.taken taken;
    }

pub create_subscription-named : {S : Type 0} (draft : DraftOf S) (ts : Items) → ArePlain ts → IsNamedDraft draft
    → Gives IsNamedDraft (create_subscription draft ts)
unfolding create_subscription
create_subscription-named draft ts h named =
    let new : PlacedName → Type 0 = IsNew (λ text. find_subscription text draft.subscriptions) in
    then-gives new IsNamedDraft (new_subscription_name draft ts) _ (first_of new _ (subscription_name-new draft ts h))
    (λ called ts2 is_new.
    then-gives (AreTaken (length draft.publications)) IsNamedDraft (subscription_body draft ts2) _
    (subscription_body-gives draft ts2) (λ numbers ts3 taken.
    with_subscription-named draft called numbers is_new taken named))

-- ---- the start and the end of the catalog

pub none_named : {S : Type 0} → IsNamedDraft {S = S} no_draft
none_named = record {
  tables = All-nil IsNamed;
  publications = own_none;
  subscriptions = own_none;
  taken =
      All-nil (TakesKnown 0);
}

pub resolved_names : {S : Type 0} (tables : List Table) (publications : List (DraftPublicationOf S))
    → map (λ (p : PublicationOf S). p.name) (map (resolved_publication tables) publications)
    ≡ map (λ (p : DraftPublicationOf S). p.name) publications
resolved_names tables [] = refl
resolved_names tables (publication ∷ publications) =
    ap (λ names. publication.name ∷ names) (resolved_names tables publications)

pub resolved_named : {S : Type 0} (draft : DraftOf S) → IsNamedDraft draft → IsNamedCatalog (resolved draft)
resolved_named draft named = record {
  publications = subst AreOwnNames (sym (resolved_names draft.tables draft.publications)) named.publications;
  subscriptions = named.subscriptions;
  taken = more_taken draft.subscriptions (length draft.publications)
      (length (map (resolved_publication draft.tables) draft.publications))
      (omega (arith, length-map draft.publications (resolved_publication draft.tables))) named.taken;
}

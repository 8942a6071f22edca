-- A share takes the rows that some publication carries.
use Rattle.std.proofs.Common.{◌≡◌, ℕ, zero, suc, ◌+◌, ◌<◌, Bool, true, false, ◌||◌, List, [], ◌∷◌, map, length, ◌==◌, slice_index_or, refl, ap, sym, ◌∙◌, arith}
use Rattle.std.proofs.lemmas.List.Folds.{list_any-append}
use Rattle.std.specs.Prelude.{Option, Some, None, slice_get, fold, filter_map, is_none}
use Rattle.std.specs.List.{list_any}
use Rattle.filter_tree.specs.Datum.{Datum}
use Rattle.filter_tree.specs.Expr.{Expr, Or, meaning}
use Rattle.filter_tree.specs.Logic.{or_of}
use Rattle.filter_tree.specs.declared.table.Table.{Table}
use Rattle.filter_tree.specs.declared.tri.Tri.{Tri}
use Rattle.filter_tree.specs.declared.tri.Tri.TheVariants.{True, False, Null}
use Rattle.pub_catalog.specs.Catalogs.{CatalogOf, PublicationOf, EntryOf}
use Rattle.pub_catalog.specs.declared.catalog.Subscription.{Subscription}
use Rattle.replica_identity.specs.Passes.{listed_by, lets, entry_carries, carries}
use Rattle.replica_identity.specs.Plans.{PlanOf, TakesWhatPasses, filters_for, share_from, shares_from, entries_in, entries_at, entries_listed, shares_for, plan_of}
use Rattle.replica_identity.specs.Shares.{Nothing, any_of, share_by, takes, is_true}
use Rattle.filter_tree.proofs.Tests.{by_test}

or_false : (b : Bool) → b ≡ (b || false)
or_false true = refl
or_false false = refl

or_or : (a b c : Bool) → ((a || b) || c) ≡ (a || (b || c))
or_or true b c = refl
or_or false b c = refl

-- ---- filters

is_true_or : (p q : Tri) → is_true (or_of p q) ≡ (is_true p || is_true q)
is_true_or True True = refl
is_true_or True False = refl
is_true_or True Null = refl
is_true_or False True = refl
is_true_or False False = refl
is_true_or False Null = refl
is_true_or Null True = refl
is_true_or Null False = refl
is_true_or Null Null = refl

abbrev is_met : List Datum → Expr → Bool
is_met row f = is_true (meaning f row)

any_is_met : (first : Expr) (filters : List Expr) (row : List Datum)
    → is_met row (fold Or first filters) ≡ (is_met row first || list_any (is_met row) filters)
any_is_met first [] row = or_false (is_met row first)
any_is_met first (f ∷ filters) row =
    any_is_met (Or first f) filters row
    ∙ ap (λ b. b || list_any (is_met row) filters) (is_true_or (meaning first row) (meaning f row))
    ∙ or_or (is_met row first) (is_met row f) (list_any (is_met row) filters)

takes_any : (filters : List Expr) (row : List Datum) → takes (any_of filters) row ≡ list_any (is_met row) filters
takes_any [] row = refl
takes_any (first ∷ filters) row = any_is_met first filters row

abbrev lets_some : List Datum → List (Option Expr) → Bool
lets_some row filters = list_any (λ f. lets f row) filters

whole_lets : (filters : List (Option Expr)) (row : List Datum) → list_any is_none filters ≡ true
    → lets_some row filters ≡ true
whole_lets [] row e = absurd cc
whole_lets (None ∷ filters) row e = refl
whole_lets (Some f ∷ filters) row e = by_test (is_met row f)
    (λ met. ap (λ b. b || lets_some row filters) met)
    (λ unmet. ap (λ b. b || lets_some row filters) unmet ∙ whole_lets filters row e)

filters_let : (filters : List (Option Expr)) (row : List Datum) → list_any is_none filters ≡ false
    → list_any (is_met row) (filter_map (λ f. f) filters) ≡ lets_some row filters
filters_let [] row e = refl
filters_let (None ∷ filters) row e = absurd cc
filters_let (Some f ∷ filters) row e = ap (λ b. is_met row f || b) (filters_let filters row e)

takes_what_lets : (filters : List (Option Expr)) (row : List Datum)
    → takes (share_by filters) row ≡ lets_some row filters
takes_what_lets filters row = by_test (list_any is_none filters)
    (λ e. rw e (sym (whole_lets filters row e)))
    (λ e. rw e (takes_any (filter_map (λ f. f) filters) row ∙ filters_let filters row e))

-- ---- entries

entries_let : (table : ℕ) (row : List Datum) (entries : List (EntryOf Expr))
    → lets_some row (filters_for table entries) ≡ list_any (entry_carries table row) entries
entries_let table row [] = refl
entries_let table row (entry ∷ entries) = by_test (entry.table == table)
    (λ e. rw e (ap (λ b. lets entry.filter row || b) (entries_let table row entries)))
    (λ e. rw e (entries_let table row entries))

abbrev onto : Option (PublicationOf Expr) → List (PublicationOf Expr) → List (PublicationOf Expr)
onto None rest = rest
onto (Some publication) rest = publication ∷ rest

one_lets : (table : ℕ) (row : List Datum) (found : Option (PublicationOf Expr)) (rest : List (PublicationOf Expr))
    (later : Bool) → later ≡ list_any (carries table row) rest →
    (list_any (entry_carries table row) (entries_in found) || later) ≡ list_any (carries table row) (onto found rest)
one_lets table row None rest later e = e
one_lets table row (Some publication) rest later e = ap (λ b. carries table row publication || b) e

publications_let : (table : ℕ) (row : List Datum) (publications : List (PublicationOf Expr)) (numbers : List ℕ) →
    list_any (entry_carries table row) (entries_listed publications numbers)
    ≡ list_any (carries table row) (filter_map (slice_get publications) numbers)
publications_let table row publications [] = refl
publications_let table row publications (number ∷ numbers) =
    list_any-append (entry_carries table row) (entries_at publications number) (entries_listed publications numbers)
    ∙ one_lets table row (slice_get publications number) (filter_map (slice_get publications) numbers)
    (list_any (entry_carries table row) (entries_listed publications numbers))
    (publications_let table row publications numbers)

-- ---- shares of tables

share_in_list : (entries : List (EntryOf Expr)) (k j : ℕ) (tables : List Table) → j < length tables
    → slice_index_or (shares_from entries k tables) j Nothing ≡ share_from entries (k + j)
share_in_list entries k j [] h = absurd (omega arith)
share_in_list entries k zero (table ∷ tables) h = ap (share_from entries) (omega arith)
share_in_list entries k (suc j) (table ∷ tables) h = share_in_list entries (k + 1) j tables (omega arith)
    ∙ ap (share_from entries) (omega arith)

no_more : (n : ℕ) → 0 + n ≡ n
no_more n = omega arith

one_takes : (catalog : CatalogOf Expr) (subscription : Subscription) (table : ℕ) (row : List Datum)
    → table < length catalog.tables →
    takes (slice_index_or (shares_for catalog subscription) table Nothing) row
    ≡ list_any (carries table row) (listed_by catalog.publications (Some subscription))
one_takes catalog subscription table row h =
    let entries = entries_listed catalog.publications subscription.publications in
    ap (λ share. takes share row)
    (share_in_list entries 0 table catalog.tables h ∙ ap (share_from entries) (no_more table))
    ∙ takes_what_lets (filters_for table entries) row
    ∙ entries_let table row entries
    ∙ publications_let table row catalog.publications subscription.publications

all_take : (catalog : CatalogOf Expr) (subscriptions : List Subscription) (subscriber table : ℕ) (row : List Datum)
    → table < length catalog.tables →
    takes (slice_index_or (slice_index_or (map (shares_for catalog) subscriptions) subscriber []) table Nothing) row
    ≡ list_any (carries table row) (listed_by catalog.publications (slice_get subscriptions subscriber))
all_take catalog [] subscriber table row h = refl
all_take catalog (subscription ∷ subscriptions) zero table row h = one_takes catalog subscription table row h
all_take catalog (subscription ∷ subscriptions) (suc subscriber) table row h =
    all_take catalog subscriptions subscriber table row h

pub takes_what_passes : (catalog : CatalogOf Expr) (plan : PlanOf) → plan ≡ plan_of catalog
    → TakesWhatPasses catalog plan
takes_what_passes catalog plan e =
    record { same = λ subscriber table h row. rw e (all_take catalog catalog.subscriptions subscriber table row h) }

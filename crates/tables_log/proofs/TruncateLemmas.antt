-- TRUNCATE of tables that exist: which are emptied, and that the list of them can be sent.
use Rattle.std.proofs.Common.{◌≡◌, ℕ, ◌<◌, ◌≤◌, Bool, true, false, ◌&&◌, ◌||◌, List, [], ◌∷◌, ◌++◌, length, refl, sym, ◌∙◌, ap, subst, arith}
use Rattle.std.specs.Prelude.{Option, Some, None, ◌==◌, All, nat_eq, slice_get, slice_set, fold, if◌then◌else◌}
use Rattle.std.specs.Cmp.{nat_eq_equiv}
use Rattle.std.specs.List.{list_any, list_all, IsDistinct}
use Rattle.std.proofs.lemmas.Bool.{ltb-true}
use Rattle.std.proofs.lemmas.List.Elements.{All-nil, All-cons}
use Rattle.std.proofs.lemmas.List.Folds.{list_any-append}
use Rattle.std.proofs.lemmas.Map.Keys.{IsDistinct-push}
use Rattle.std.proofs.lemmas.Option.{slice_get_past}
use Rattle.std.proofs.lemmas.Map.Steps.{length-le_from_distinct_below}
use Rattle.filter_tree.specs.Datum.{Datum}
use Rattle.filter_tree.specs.Expr.{Expr}
use Rattle.filter_tree.specs.Lists.{with_item, distinct}
use Rattle.pub_catalog.specs.Catalogs.{CatalogOf}
use Rattle.replica_identity.specs.Plans.{PlanOf}
use Rattle.replica_identity.specs.Setting.{setting_of}
use Rattle.table_changes.specs.Commands.{Truncate, NoTable, unless, all_known}
use Rattle.table_changes.specs.Records as r
use Rattle.table_changes.specs.Setting.{Setting}
use Rattle.table_changes.specs.Tables.{Tables, SameTables, emptied}
use Rattle.tables_log.specs.Applying.{IsNarrow, Applies}
use Rattle.tables_log.specs.Places.{maps_of, seen_at, seen_in, EmptiesRows, EmptiesTable, KeepsTables}
use Rattle.tables_log.specs.Sendable.{IsTableNumber}
use Rattle.tables_log.specs.declared.table_rows.TableRows.{TableRows}
use Rattle.tables_log.proofs.ListLemmas.{keeps_both}
use Rattle.tables_log.proofs.PlaceLemmas.{number_is, number_itself, sees_tables}
use Rattle.filter_tree.proofs.Tests.{by_test, or_false}

-- ---- numbers, each once

first_true : (p q : Bool) → (p && q) ≡ true → p ≡ true
first_true true q h = refl
first_true false q h = absurd cc

second_true : (p q : Bool) → (p && q) ≡ true → q ≡ true
second_true true q h = h
second_true false q h = absurd cc

or_left : (p q : Bool) → p ≡ true → (p || q) ≡ true
or_left true q h = refl
or_left false q h = absurd cc

or_right : (p q : Bool) → q ≡ true → (p || q) ≡ true
or_right true q h = refl
or_right false q h = h

either_or : (p q s : Bool) → ((p || q) || s) ≡ true → (p || (q || s)) ≡ true
either_or true q s h = refl
either_or false q s h = h

any_with_if : (has : Bool) (number item : ℕ) (numbers : List ℕ)
    → list_any (nat_eq number) (if has then numbers else numbers ++ item ∷ []) ≡ true
    → (list_any (nat_eq number) numbers || nat_eq number item) ≡ true
any_with_if true number item numbers h = or_left (list_any (nat_eq number) numbers) (nat_eq number item) h
any_with_if false number item numbers h =
    ap (λ b. list_any (nat_eq number) numbers || b) (sym (or_false (nat_eq number item)))
    ∙ sym (list_any-append (nat_eq number) numbers (item ∷ [])) ∙ h

any_of_fold : (number : ℕ) (numbers more : List ℕ)
    → list_any (nat_eq number) (fold (with_item nat_eq) numbers more) ≡ true
    → (list_any (nat_eq number) numbers || list_any (nat_eq number) more) ≡ true
any_of_fold number numbers [] h = or_left (list_any (nat_eq number) numbers) false h
any_of_fold number numbers (item ∷ more) h = by_test (list_any (nat_eq number) more)
    (λ later. or_right (list_any (nat_eq number) numbers) (nat_eq number item || list_any (nat_eq number) more)
    (or_right (nat_eq number item) (list_any (nat_eq number) more) later))
    (λ no_later.
    let first : list_any (nat_eq number) (with_item nat_eq numbers item) ≡ true =
    sym (or_false (list_any (nat_eq number) (with_item nat_eq numbers item)))
    ∙ ap (λ b. list_any (nat_eq number) (with_item nat_eq numbers item) || b) (sym no_later)
    ∙ any_of_fold number (with_item nat_eq numbers item) more h in
    either_or (list_any (nat_eq number) numbers) (nat_eq number item) (list_any (nat_eq number) more)
    (or_left (list_any (nat_eq number) numbers || nat_eq number item) (list_any (nat_eq number) more)
    (any_with_if (list_any (nat_eq item) numbers) number item numbers first)))

pub distinct_with : (has : Bool) (item : ℕ) (numbers : List ℕ) → list_any (nat_eq item) numbers ≡ has
    → IsDistinct nat_eq numbers
    → IsDistinct nat_eq (if has then numbers else numbers ++ item ∷ [])
distinct_with true item numbers is h = h
distinct_with false item numbers is h = IsDistinct-push nat_eq_equiv numbers item h is

pub distinct_fold : (numbers more : List ℕ) → IsDistinct nat_eq numbers
    → IsDistinct nat_eq (fold (with_item nat_eq) numbers more)
distinct_fold numbers [] h = h
distinct_fold numbers (item ∷ more) h =
    distinct_fold (with_item nat_eq numbers item) more
    (distinct_with (list_any (nat_eq item) numbers) item numbers refl h)

pub none_distinct : IsDistinct nat_eq []
unfolding IsDistinct
none_distinct = tt

-- ---- tables that exist

known_of_any : (known : ℕ → Bool) (number : ℕ) (numbers : List ℕ) → list_all known numbers ≡ true
    → list_any (nat_eq number) numbers ≡ true → known number ≡ true
known_of_any known number [] all any = absurd cc
known_of_any known number (first ∷ numbers) all any = by_test (nat_eq number first)
    (λ here. ap known (number_is number first here) ∙ first_true (known first) (list_all known numbers) all)
    (λ beside. known_of_any known number numbers (second_true (known first) (list_all known numbers) all)
    (sym (ap (λ b. b || list_any (nat_eq number) numbers) beside) ∙ any))

all_numbers : (numbers : List ℕ) → ((number : ℕ) → list_any (nat_eq number) numbers ≡ true → number < 64)
    → All IsTableNumber numbers
all_numbers [] below = All-nil IsTableNumber
all_numbers (number ∷ numbers) below =
    All-cons IsTableNumber number numbers
    (below number (or_left (nat_eq number number) (list_any (nat_eq number) numbers) (number_itself number)))
    (all_numbers numbers (λ other h. below other (or_right (nat_eq other number) (list_any (nat_eq other) numbers) h)))

known_all : (setting : Setting) (numbers : List ℕ) → all_known setting numbers ≡ true
    → list_all setting.known numbers ≡ true
known_all setting [] h = refl
known_all setting (number ∷ numbers) h = h

pub truncate_applies : (catalog : CatalogOf Expr) (plan : PlanOf) (old new : List TableRows) (numbers once : List ℕ)
    → IsNarrow catalog.tables
    → all_known (setting_of catalog plan) numbers ≡ true → once ≡ distinct nat_eq numbers
    → SameTables (seen_in new) (emptied (seen_in old) numbers)
    → Applies (setting_of catalog plan) old new (Truncate numbers) (r.Truncate once)
truncate_applies catalog plan old new numbers once narrow known is empties =
    let few : length catalog.tables ≤ 64 = narrow.few in
    let below : (number : ℕ) → list_any (nat_eq number) once ≡ true → number < 64 = λ number any.
    let one : list_any (nat_eq number) (distinct nat_eq numbers) ≡ true = ap (list_any (nat_eq number)) (sym is)
    ∙ any in
    let low : number < length catalog.tables = ltb-true number (length catalog.tables)
    (known_of_any (setting_of catalog plan).known number numbers (known_all (setting_of catalog plan) numbers known)
    (any_of_fold number [] numbers one)) in
    omega arith in
    record {
      no_fault = ap (λ b. unless b NoTable None) known;
      leaves = empties;
      records = ap r.Truncate is;
      sendable = (
        length-le_from_distinct_below once 64
            (subst (IsDistinct nat_eq) (sym is) (distinct_fold [] numbers none_distinct)) below,
        all_numbers once below,
      );
    }

-- ---- one table after another is emptied

empty_if : (here later : Bool) (row : Option (List Datum))
    → (if later then None else (if here then None else row)) ≡ (if here || later then None else row)
empty_if true true row = refl
empty_if true false row = refl
empty_if false true row = refl
empty_if false false row = refl

-- of the first of these tables nothing is seen, and of the others what was seen before
pub empties_one : (tables left : Tables) (number : ℕ) (numbers : List ℕ)
    → ((other key : ℕ) (value : List Datum)
    → left other key value ≡ (if number == other then None else tables other key value))
    → SameTables (emptied left numbers) (emptied tables (number ∷ numbers))
empties_one tables left number numbers sees = λ other key value.
    ap (λ row. if list_any (λ table. table == other) numbers then None else row) (sees other key value)
    ∙ empty_if (number == other) (list_any (λ table. table == other) numbers) (tables other key value)

-- so far: emptying the remaining tables leaves what emptying all leaves
pub record Emptying (tables first : List TableRows) (left all : List ℕ) : Type 0 where
  pub empties : SameTables (emptied (seen_in tables) left) (emptied (seen_in first) all)
  pub keeps : KeepsTables first tables

-- nothing is seen of a table that does not exist
nothing_past : (tables : List TableRows) (number : ℕ) → length tables ≤ number → (key : ℕ) (value : List Datum)
    → seen_in tables number key value ≡ None
nothing_past tables number past key value =
    ap (λ found. seen_at (maps_of found) key value) (slice_get_past tables number past)

pub empties_past : (tables : List TableRows) (number : ℕ) → length tables ≤ number → EmptiesTable tables tables number
empties_past tables number past = record {
  sees = λ other key value. by_test (number == other)
      (λ h. ap (λ k. seen_in tables k key value) (sym (number_is number other h))
      ∙ nothing_past tables number past key value
      ∙ sym (ap (λ b. if b then None else seen_in tables other key value) h))
      (λ h. sym (ap (λ b. if b then None else seen_in tables other key value) h));
}

pub empties_here : (tables : List TableRows) (number : ℕ) (old new : TableRows) → slice_get tables number ≡ Some old
    → EmptiesRows new → EmptiesTable tables (slice_set tables number new) number
empties_here tables number old new at empties = record {
  sees = sees_tables tables number old new at (λ t n w. if number == t then None else seen_in tables t n w)
      (λ n w. empties.sees n w ∙ sym (ap (λ b. if b then None else seen_in tables number n w) (number_itself number)))
      (λ t apart n w. by_test (number == t) (λ h. absurd (apart (sym (number_is number t h))))
      (λ h. ap (λ b. if b then None else seen_in tables t n w) h));
}

pub empties_next : (tables new first : List TableRows) (number : ℕ) (left all : List ℕ) → KeepsTables tables new
    → EmptiesTable tables new number
    → Emptying tables first (number ∷ left) all → Emptying new first left all
empties_next tables new first number left all keeps empties emptying = record {
  empties = λ other key value. empties_one (seen_in tables) (seen_in new) number left empties.sees other key value
      ∙ emptying.empties other key value;
  keeps = keeps_both first tables new emptying.keeps keeps;
}

-- Loops that do the same to each item of a list, one after another: what was done stays done, and the rest is as it
-- was.
use Rattle.std.proofs.Common.{◌≡◌, ◌≢◌, ℕ, ◌+◌, ◌<◌, ◌≤◌, List, length, refl, sym, ◌∙◌, ap, subst, arith}
use Rattle.std.specs.Prelude.{Option, Some, None, ◌==◌, nat_lt, slice_get, slice_set}
use Rattle.std.proofs.lemmas.Bool.{ltb-true, ltb-false}
use Rattle.std.proofs.lemmas.Option.{slice_get_past}
use Rattle.std.proofs.lemmas.List.{length-set}
use Rattle.filter_tree.specs.Datum.{Datum}
use Rattle.table_changes.specs.Tables.{Tables}
use Rattle.tables_log.specs.Places.{Places, map_shown, kept_at, seen_at, maps_of, kept_in, seen_in, widths, SettlesRows, DiscardsRows, DiscardsTables}
use Rattle.tables_log.specs.Staging.{kept, seen, Settles}
use Rattle.tables_log.specs.declared.staged.Staged.{Staged}
use Rattle.tables_log.specs.declared.table_rows.TableRows.{TableRows}
use Rattle.tables_log.proofs.PlaceLemmas.{number_is, number_apart, within, get_set_here, get_set_beside, map_set}
use Rattle.filter_tree.proofs.Tests.{by_test}

-- ---- for any items, of which `show` says what they show

module _ {X A : Type 0} (show : Option X → A) (Same : A → A → Type 0) (wanted : ℕ → A) where
  pub pass_done : (xs : List X) (i : ℕ) (old new : X) → slice_get xs i ≡ Some old → Same (show (Some new)) (wanted i)
      → ((n : ℕ) → n < i → Same (show (slice_get xs n)) (wanted n)) → (n : ℕ) → n < i + 1
      → Same (show (slice_get (slice_set xs i new) n)) (wanted n)
  pass_done xs i old new at here done n low = by_test (n == i)
      (λ h. let same : n ≡ i = number_is n i h in
      subst (λ k. Same (show (slice_get (slice_set xs i new) k)) (wanted k)) (sym same)
      (subst (λ found. Same (show found) (wanted i)) (sym (get_set_here xs i new (within xs i old at))) here))
      (λ h. let apart : n ≢ i = number_apart n i h in
      subst (λ found. Same (show found) (wanted n)) (sym (get_set_beside xs i n new apart)) (done n (omega arith)))

  pub pass_all : (xs first : List X) (i : ℕ) → length xs ≡ length first → length first ≤ i
      → ((n : ℕ) → n < i → Same (show (slice_get xs n)) (wanted n))
      → ((n : ℕ) → length first ≤ n → Same (show None) (wanted n)) → (n : ℕ) → Same (show (slice_get xs n)) (wanted n)
  pass_all xs first i width ended done past n = by_test (nat_lt n (length xs))
      (λ low. done n (let below : n < length xs = ltb-true n (length xs) low in omega arith))
      (λ high. let above : length xs ≤ n = ltb-false n (length xs) high in
      subst (λ found. Same (show found) (wanted n)) (sym (slice_get_past xs n above)) (past n (omega arith)))

pub pass_rest : {X : Type 0} (xs first : List X) (i : ℕ) (new : X)
    → ((n : ℕ) → i ≤ n → slice_get xs n ≡ slice_get first n)
    → (n : ℕ) → i + 1 ≤ n → slice_get (slice_set xs i new) n ≡ slice_get first n
pass_rest xs first i new rest n high = let apart : n ≢ i = omega arith in get_set_beside xs i n new apart
    ∙ rest n (omega arith)

-- ---- for the maps of a table

abbrev pub SameShown : (List Datum → Option (List Datum)) → (List Datum → Option (List Datum)) → Type 0
SameShown one other = (value : List Datum) → one value ≡ other value

-- the maps before this one keep and show that, and the others are as they were
pub record Going (maps first : List (Staged (List Datum))) (index : ℕ) (kept_as seen_as : Places) : Type 0 where
  pub keeps : (number : ℕ) → number < index → SameShown (kept_at maps number) (kept_as number)
  pub sees : (number : ℕ) → number < index → SameShown (seen_at maps number) (seen_as number)
  pub rest : (number : ℕ) → index ≤ number → slice_get maps number ≡ slice_get first number
  pub width : length maps ≡ length first

pub goes_on : (maps first : List (Staged (List Datum))) (index : ℕ) (kept_as seen_as : Places)
    (old new : Staged (List Datum)) → slice_get maps index ≡ Some old
    → SameShown (kept new) (kept_as index) → SameShown (seen new) (seen_as index)
    → Going maps first index kept_as seen_as
    → Going (slice_set maps index new) first (index + 1) kept_as seen_as
goes_on maps first index kept_as seen_as old new at keeps sees going = record {
  keeps = pass_done (map_shown kept) SameShown kept_as maps index old new at keeps going.keeps;
  sees = pass_done (map_shown seen) SameShown seen_as maps index old new at sees going.sees;
  rest = pass_rest maps first index new going.rest;
  width = length-set maps index new ∙ going.width;
}

pub past_kept : (maps : List (Staged (List Datum))) (number : ℕ) → length maps ≤ number
    → SameShown (map_shown kept None) (kept_at maps number)
past_kept maps number past value = sym (ap (λ found. map_shown kept found value) (slice_get_past maps number past))

pub past_seen : (maps : List (Staged (List Datum))) (number : ℕ) → length maps ≤ number
    → SameShown (map_shown kept None) (seen_at maps number)
past_seen maps number past value = sym (ap (λ found. map_shown seen found value) (slice_get_past maps number past))

-- ---- all maps

pub settles_all : (maps first : List (Staged (List Datum))) (index : ℕ) → length first ≤ index
    → Going maps first index (seen_at first) (seen_at first)
    → (number : ℕ) (value : List Datum) → kept_at maps number value ≡ seen_at first number value
settles_all maps first index ended going =
    pass_all (map_shown kept) SameShown (seen_at first) maps first index going.width ended going.keeps (past_seen first)

pub keeps_all : (maps first : List (Staged (List Datum))) (index : ℕ) (seen_as : Places) → length first ≤ index
    → Going maps first index (kept_at first) seen_as
    → (number : ℕ) (value : List Datum) → kept_at maps number value ≡ kept_at first number value
keeps_all maps first index seen_as ended going =
    pass_all (map_shown kept) SameShown (kept_at first) maps first index going.width ended going.keeps (past_kept first)

pub discards_all : (maps first : List (Staged (List Datum))) (index : ℕ) → length first ≤ index
    → Going maps first index (kept_at first) (kept_at first)
    → (number : ℕ) (value : List Datum) → seen_at maps number value ≡ kept_at first number value
discards_all maps first index ended going =
    pass_all (map_shown seen) SameShown (kept_at first) maps first index going.width ended going.sees (past_kept first)

pub empties_all : (maps first : List (Staged (List Datum))) (index : ℕ) (kept_as : Places) → length first ≤ index
    → Going maps first index kept_as (λ number value. None)
    → (number : ℕ) (value : List Datum) → seen_at maps number value ≡ None
empties_all maps first index kept_as ended going =
    pass_all (map_shown seen) SameShown (λ number value. None) maps first index going.width ended going.sees
    (λ n past value. refl)

-- ---- for tables

abbrev pub SamePlaces : Places → Places → Type 0
SamePlaces one other = (number : ℕ) (value : List Datum) → one number value ≡ other number value

pub record GoingTables (tables first : List TableRows) (index : ℕ) (kept_as seen_as : Tables) : Type 0 where
  pub keeps : (table : ℕ) → table < index → SamePlaces (kept_in tables table) (kept_as table)
  pub sees : (table : ℕ) → table < index → SamePlaces (seen_in tables table) (seen_as table)
  pub rest : (table : ℕ) → index ≤ table → slice_get tables table ≡ slice_get first table
  pub count : length tables ≡ length first
  pub width : widths tables ≡ widths first

pub goes_on_tables : (tables first : List TableRows) (index : ℕ) (kept_as seen_as : Tables) (old new : TableRows)
    → slice_get tables index ≡ Some old
    → SamePlaces (kept_at new.maps.items) (kept_as index) → SamePlaces (seen_at new.maps.items) (seen_as index)
    → length new.maps.items ≡ length old.maps.items
    → GoingTables tables first index kept_as seen_as
    → GoingTables (slice_set tables index new) first (index + 1) kept_as seen_as
goes_on_tables tables first index kept_as seen_as old new at keeps sees width going = record {
  keeps = pass_done (λ found. kept_at (maps_of found)) SamePlaces kept_as tables index old new at keeps going.keeps;
  sees = pass_done (λ found. seen_at (maps_of found)) SamePlaces seen_as tables index old new at sees going.sees;
  rest = pass_rest tables first index new going.rest;
  count = length-set tables index new ∙ going.count;
  width = map_set (λ (rows : TableRows). length rows.maps.items) tables index new old at width ∙ going.width;
}

past_table : (tables : List TableRows) (table : ℕ) → length tables ≤ table → (number : ℕ) (value : List Datum)
    → kept_in tables table number value ≡ None
past_table tables table past number value =
    ap (λ found. kept_at (maps_of found) number value) (slice_get_past tables table past)

pub discards_tables : (tables first : List TableRows) (index : ℕ) → length first ≤ index
    → GoingTables tables first index (kept_in first) (kept_in first) → DiscardsTables first tables
discards_tables tables first index ended going = record {
  keeps = λ table. pass_all (λ found. kept_at (maps_of found)) SamePlaces (kept_in first) tables first index
      going.count ended going.keeps
      (λ t past number value. sym (past_table first t past number value)) table;
  sees = λ table. pass_all (λ found. seen_at (maps_of found)) SamePlaces (kept_in first) tables first index
      going.count ended going.sees
      (λ t past number value. sym (past_table first t past number value)) table;
  width = going.width;
}

-- ---- as loops have it

pub settles_next : (maps first : List (Staged (List Datum))) (index : ℕ) (old new : Staged (List Datum))
    → slice_get maps index ≡ Some old → Settles old new
    → Going maps first index (seen_at first) (seen_at first)
    → Going (slice_set maps index new) first (index + 1) (seen_at first) (seen_at first)
settles_next maps first index old new at settles going =
    let before : slice_get first index ≡ Some old = sym (going.rest index (omega arith)) ∙ at in
    let was : (value : List Datum) → seen old value ≡ seen_at first index value =
    λ value. sym (ap (λ found. map_shown seen found value) before) in
    goes_on maps first index (seen_at first) (seen_at first) old new at (λ value. settles.keeps value ∙ was value)
    (λ value. settles.sees value ∙ was value) going

pub settles_rows : (old new : TableRows) (index : ℕ) → length old.maps.items ≤ index
    → Going new.maps.items old.maps.items index (seen_at old.maps.items) (seen_at old.maps.items)
    → SettlesRows old new
settles_rows old new index ended going = record {
  keeps = settles_all new.maps.items old.maps.items index ended going;
  sees = pass_all (map_shown seen) SameShown (seen_at old.maps.items) new.maps.items old.maps.items index going.width
      ended going.sees (past_seen old.maps.items);
  width = going.width;
}

pub discards_tables_next : (tables first : List TableRows) (index : ℕ) (old new : TableRows)
    → slice_get tables index ≡ Some old → DiscardsRows old new
    → GoingTables tables first index (kept_in first) (kept_in first)
    → GoingTables (slice_set tables index new) first (index + 1) (kept_in first) (kept_in first)
discards_tables_next tables first index old new at discards going =
    let before : slice_get first index ≡ Some old = sym (going.rest index (omega arith)) ∙ at in
    let was : SamePlaces (kept_at old.maps.items) (kept_in first index) =
    λ number value. sym (ap (λ found. kept_at (maps_of found) number value) before) in
    goes_on_tables tables first index (kept_in first) (kept_in first) old new at
    (λ number value. discards.keeps number value ∙ was number value)
    (λ number value. discards.sees number value ∙ was number value) discards.width going

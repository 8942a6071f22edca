-- A row comes into the maps of its table, or goes out of them, one map after another.
use Rattle.std.proofs.Common.{◌≡◌, ◌≢◌, ℕ, zero, suc, ◌+◌, ◌<◌, Bool, true, false, ◌&&◌, List, [], ◌∷◌, length, take, drop, refl, sym, ◌∙◌, ap, subst, arith}
use Rattle.std.specs.Prelude.{Option, Some, None, ◌==◌, is_some, is_none, slice_index_or, if◌then◌else◌}
use Rattle.std.proofs.lemmas.Option.{slice_get_read}
use Rattle.filter_tree.specs.Datum.{Datum}
use Rattle.table_changes.specs.Keys.{UniqueKey}
use Rattle.table_changes.specs.Tables.{is_row, found_at, is_free_from}
use Rattle.tables_log.specs.Places.{Places, map_shown, kept_at, seen_at, value_of, put_at, are_free, values_in, KeepsRows, PutsOne, PutsRow}
use Rattle.tables_log.specs.Staging.{seen}
use Rattle.tables_log.specs.declared.staged.Staged.{Staged}
use Rattle.tables_log.specs.declared.table_rows.TableRows.{TableRows}
use Rattle.tables_log.proofs.PlaceLemmas.{free_values, number_is, number_apart, number_itself}
use Rattle.filter_tree.proofs.Tests.{by_test}

-- ---- the first values

value_here : (values : List (Option (List Datum))) (n : ℕ) → value_of (take (suc n) values) n ≡ value_of values n
value_here [] n = refl
value_here (value ∷ values) zero = refl
value_here (value ∷ values) (suc n) = value_here values n

value_beside : (values : List (Option (List Datum))) (n number : ℕ) → number ≢ n
    → value_of (take (suc n) values) number ≡ value_of (take n values) number
value_beside [] zero number apart = refl
value_beside [] (suc n) number apart = refl
value_beside (value ∷ values) zero zero apart = absurd (apart refl)
value_beside (value ∷ values) zero (suc number) apart = refl
value_beside (value ∷ values) (suc n) zero apart = refl
value_beside (value ∷ values) (suc n) (suc number) apart =
    value_beside values n number (λ same. apart (ap suc same))

next_here : (values : List (Option (List Datum))) (n : ℕ) → value_of (take (n + 1) values) n ≡ value_of values n
next_here values n = let same : n + 1 ≡ suc n = omega arith in
    ap (λ k. value_of (take k values) n) same ∙ value_here values n

next_beside : (values : List (Option (List Datum))) (n number : ℕ) → number ≢ n
    → value_of (take (n + 1) values) number ≡ value_of (take n values) number
next_beside values n number apart = let same : n + 1 ≡ suc n = omega arith in
    ap (λ k. value_of (take k values) number) same ∙ value_beside values n number apart

value_past : (values : List (Option (List Datum))) (n : ℕ) → value_of (take n values) n ≡ None
value_past [] zero = refl
value_past [] (suc n) = refl
value_past (value ∷ values) zero = refl
value_past (value ∷ values) (suc n) = value_past values n

take_all : {X : Type 0} (xs : List X) → take (length xs) xs ≡ xs
take_all [] = refl
take_all (x ∷ xs) = ap (λ rest. x ∷ rest) (take_all xs)

-- ---- one map

-- what is seen in a map that has this number
pub seen_there : (rows : TableRows) (number : ℕ) (old : Staged (List Datum)) (value : List Datum)
    → number < length rows.maps.items → old ≡ slice_index_or rows.maps.items number old
    → seen_at rows.maps.items number value ≡ seen old value
seen_there rows number old value low is =
    ap (λ found. map_shown seen found value)
    (slice_get_read rows.maps.items (length rows.maps.items) number old refl low is)

pub was_there : (rows : TableRows) (number : ℕ) (old : Staged (List Datum)) (value : List Datum) (was : Bool)
    → number < length rows.maps.items → old ≡ slice_index_or rows.maps.items number old
    → was ≡ is_some (seen old value) → was ≡ is_some (seen_at rows.maps.items number value)
was_there rows number old value was low is found = found ∙ ap is_some (sym (seen_there rows number old value low is))

pub none_found : (place : List Datum → Option (List Datum)) (value : Option (List Datum)) → value ≡ None
    → false ≡ is_some (found_at place value)
none_found place value none = sym (ap (λ one. is_some (found_at place one)) none)

found_alike : (one other : List Datum → Option (List Datum)) → ((value : List Datum) → one value ≡ other value)
    → (value : Option (List Datum)) → found_at one value ≡ found_at other value
found_alike one other alike None = refl
found_alike one other alike (Some value) = alike value

pub puts_same : (old new : TableRows) (number : ℕ) (one other row : Option (List Datum)) → one ≡ other
    → PutsOne old new number one row → PutsOne old new number other row
puts_same old new number one other row same puts = subst (λ value. PutsOne old new number value row) same puts

pub found_same : (place : List Datum → Option (List Datum)) (value : List Datum) (other : Option (List Datum))
    (was : Bool) → Some value ≡ other → was ≡ is_some (place value) → was ≡ is_some (found_at place other)
found_same place value other was same is = is ∙ ap (λ one. is_some (found_at place one)) same

-- ---- one map after another

-- the maps before this one have the row, or have it no longer, and the others are as they were
pub record Stepping (first_maps maps : List (Staged (List Datum))) (values : List (Option (List Datum)))
    (row : Option (List Datum)) (count : ℕ) : Type 0 where
  pub sees : (number : ℕ) (found : List Datum)
      → seen_at maps number found ≡ put_at (seen_at first_maps) (take count values) row number found
  pub keeps : (number : ℕ) (found : List Datum) → kept_at maps number found ≡ kept_at first_maps number found
  pub width : length maps ≡ length first_maps

pub steps_begin : (maps : List (Staged (List Datum))) (values : List (Option (List Datum))) (row : Option (List Datum))
    → Stepping maps maps values row 0
steps_begin maps values row = record { sees = λ number found. refl; keeps = λ number found. refl; width = refl }

module _ (first_maps : List (Staged (List Datum))) (values : List (Option (List Datum))) (row : Option (List Datum))
    (count : ℕ) (old : TableRows) (stepping : Stepping first_maps old.maps.items values row count) where
  seen_as_first : (found : List Datum) → seen_at old.maps.items count found ≡ seen_at first_maps count found
  seen_as_first found = stepping.sees count found
      ∙ ap (λ value. if is_row value found then row else seen_at first_maps count found) (value_past values count)

  pub steps_one : (new : TableRows) → PutsOne old new count (value_of values count) row → KeepsRows old new
      → Stepping first_maps new.maps.items values row (count + 1)
  steps_one new one kept = record {
    sees = λ number found. by_test (number == count)
        (λ here. let same : number ≡ count = number_is number count here in
        subst (λ n. seen_at new.maps.items n found
        ≡ put_at (seen_at first_maps) (take (count + 1) values) row n found) (sym same)
        (one.sees count found
        ∙ ap (λ b. if b && is_row (value_of values count) found then row else seen_at old.maps.items count found)
        (number_itself count)
        ∙ ap (λ under. if is_row (value_of values count) found then row else under) (seen_as_first found)
        ∙ sym (ap (λ value. if is_row value found then row else seen_at first_maps count found)
        (next_here values count))))
        (λ beside. let apart : number ≢ count = number_apart number count beside in
        one.sees number found
        ∙ ap (λ b. if b && is_row (value_of values count) found then row else seen_at old.maps.items number found)
        beside
        ∙ stepping.sees number found
        ∙ sym (ap (λ value. if is_row value found then row else seen_at first_maps number found)
        (next_beside values count number apart)));
    keeps = λ number found. kept.keeps number found ∙ stepping.keeps number found;
    width = kept.width ∙ stepping.width;
  }

  pub steps_keep : (first new : TableRows) → first.maps.items ≡ first_maps → KeepsRows old new → KeepsRows first new
  steps_keep first new same kept = record {
    keeps = λ number found. kept.keeps number found ∙ stepping.keeps number found
        ∙ sym (ap (λ maps. kept_at maps number found) same);
    width = kept.width ∙ stepping.width ∙ sym (ap length same);
  }

  -- what a call says of the row that was seen
  pub was_first : (was : Bool) → was ≡ is_some (found_at (seen_at old.maps.items count) (value_of values count))
      → was ≡ is_some (found_at (seen_at first_maps count) (value_of values count))
  was_first was is = is ∙ ap is_some (found_alike (seen_at old.maps.items count) (seen_at first_maps count)
      seen_as_first (value_of values count))

pub steps_done : (first new : TableRows) (values : List (Option (List Datum))) (row : Option (List Datum)) (count : ℕ)
    → length values ≡ count → Stepping first.maps.items new.maps.items values row count → PutsRow first new values row
steps_done first new values row count all stepping = record {
  sees = λ number found. stepping.sees number found
      ∙ ap (λ list. put_at (seen_at first.maps.items) list row number found)
      (ap (λ n. take n values) (sym all) ∙ take_all values);
}

-- ---- whether the row's values are free

none_of : {V : Type 0} (found : Option V) → is_some found ≡ false → is_none found ≡ true
none_of None none = refl
none_of (Some value) none = absurd cc

some_of : {V : Type 0} (found : Option V) → is_some found ≡ true → is_none found ≡ false
some_of None some = absurd cc
some_of (Some value) some = refl

free_from : (places : Places) (values : List (Option (List Datum))) (count number : ℕ) → count < length values
    → are_free places number (drop count values)
    ≡ (is_none (found_at (places number) (value_of values count))
    && are_free places (number + 1) (drop (count + 1) values))
free_from places [] count number low = absurd (omega arith)
free_from places (value ∷ values) zero number low = refl
free_from places (value ∷ values) (suc count) number low =
    free_from places values count number (omega arith)
    ∙ ap (λ k. is_none (found_at (places number) (value_of values count))
    && are_free places (number + 1) (drop k (value ∷ values)))
    (let same : suc (count + 1) ≡ suc count + 1 = omega arith in same)

drop_all : {X : Type 0} (xs : List X) → drop (length xs) xs ≡ []
drop_all [] = refl
drop_all (x ∷ xs) = drop_all xs

-- so far no row was seen by the row's values
pub record Placing (first_maps maps : List (Staged (List Datum))) (values : List (Option (List Datum)))
    (row : Option (List Datum)) (count : ℕ) : Type 0 where
  pub stepping : Stepping first_maps maps values row count
  pub free : are_free (seen_at first_maps) count (drop count values) ≡ are_free (seen_at first_maps) 0 values

pub places_begin : (maps : List (Staged (List Datum))) (values : List (Option (List Datum)))
    (row : Option (List Datum)) → Placing maps maps values row 0
places_begin maps values row = record { stepping = steps_begin maps values row; free = refl }

module _ (first_maps : List (Staged (List Datum))) (values : List (Option (List Datum))) (row : Option (List Datum))
    (count : ℕ) (old : TableRows) (placing : Placing first_maps old.maps.items values row count)
    (low : count < length values) (was : Bool)
    (is : was ≡ is_some (found_at (seen_at old.maps.items count) (value_of values count))) where
  pub places_one : (new : TableRows) → PutsOne old new count (value_of values count) row → KeepsRows old new
      → was ≡ false → Placing first_maps new.maps.items values row (count + 1)
  places_one new one kept none = record {
    stepping = steps_one first_maps values row count old placing.stepping new one kept;
    free = sym (free_from (seen_at first_maps) values count count low
        ∙ ap (λ b. b && are_free (seen_at first_maps) (count + 1) (drop (count + 1) values))
        (none_of (found_at (seen_at first_maps count) (value_of values count))
        (sym (was_first first_maps values row count old placing.stepping was is) ∙ none)))
        ∙ placing.free;
  }

  pub not_free : was ≡ true → false ≡ are_free (seen_at first_maps) 0 values
  not_free some = sym (sym placing.free ∙ free_from (seen_at first_maps) values count count low
      ∙ ap (λ b. b && are_free (seen_at first_maps) (count + 1) (drop (count + 1) values))
      (some_of (found_at (seen_at first_maps count) (value_of values count))
      (sym (was_first first_maps values row count old placing.stepping was is) ∙ some)))

pub all_free : (first_maps maps : List (Staged (List Datum))) (values : List (Option (List Datum)))
    (row : Option (List Datum)) (count : ℕ) → length values ≡ count → Placing first_maps maps values row count
    → true ≡ are_free (seen_at first_maps) 0 values
all_free first_maps maps values row count all placing =
    sym (ap (are_free (seen_at first_maps) count) (ap (λ n. drop n values) (sym all) ∙ drop_all values))
    ∙ placing.free

pub free_is : (places : Places) (keys : List UniqueKey) (row : List Datum) (b : Bool)
    → b ≡ are_free places 0 (values_in keys row) → is_free_from places 0 keys row ≡ b
free_is places keys row b is = sym (is ∙ free_values places 0 keys row)

-- Where rows are in the maps of tables, after each step on one map or on one table.
use Rattle.std.proofs.Common.{◌≡◌, ◌≢◌, ℕ, zero, suc, ◌+◌, ◌<◌, ◌≤◌, Bool, true, false, ◌&&◌, List, [], ◌∷◌, ◌++◌, length, map, take, drop, refl, sym, ◌∙◌, ap, subst, arith}
use Rattle.std.specs.Prelude.{Option, Some, None, ◌==◌, is_none, slice_get, slice_set, if◌then◌else◌}
use Rattle.std.specs.Cmp.{unsigned_Decides}
use Rattle.std.proofs.Common.{length-append}
use Rattle.std.specs.Prelude.{slice_index_or}
use Rattle.std.proofs.lemmas.List.{length-set, length-map}
use Rattle.std.proofs.lemmas.Option.{slice_get_read}
use Rattle.filter_tree.specs.Datum.{Datum}
use Rattle.filter_tree.specs.Same.{same_row}
use Rattle.table_changes.specs.Keys.{UniqueKey, Keys, value_in, key_at}
use Rattle.table_changes.specs.Tables.{Tables, SameTables, is_row, put, found_at, is_free_from}
use Rattle.table_changes.proofs.TableLemmas.{some_is}
use Rattle.tables_log.specs.Layers.{flat}
use Rattle.tables_log.specs.Places.{Places, map_shown, kept_at, seen_at, maps_of, kept_in, seen_in, widths, value_of, put_at, are_free, values_in, KeepsRows, PutsOne, PutsRow, KeepsTables}
use Rattle.tables_log.specs.Staging.{kept, seen, Keeps, Puts}
use Rattle.tables_log.specs.declared.staged.Staged.{Staged}
use Rattle.tables_log.specs.declared.table_rows.TableRows.{TableRows}
use Rattle.filter_tree.proofs.Tests.{by_test}

-- ---- numbers and lists

pub number_is : (one other : ℕ) → (one == other) ≡ true → one ≡ other
number_is one other h = (unsigned_Decides one other).0 h

pub number_apart : (one other : ℕ) → (one == other) ≡ false → one ≢ other
number_apart one other h same = let equal : (one == other) ≡ true = (unsigned_Decides one other).1 same in absurd cc

pub number_itself : (number : ℕ) → (number == number) ≡ true
number_itself number = (unsigned_Decides number number).1 refl

pub get_set_here : {X : Type 0} (xs : List X) (i : ℕ) (x : X) → i < length xs → slice_get (slice_set xs i x) i ≡ Some x
get_set_here [] i x h = absurd (omega arith)
get_set_here (y ∷ ys) zero x h = refl
get_set_here (y ∷ ys) (suc i) x h = get_set_here ys i x (omega arith)

pub get_set_beside : {X : Type 0} (xs : List X) (i n : ℕ) (x : X) → n ≢ i
    → slice_get (slice_set xs i x) n ≡ slice_get xs n
get_set_beside [] i n x apart = refl
get_set_beside (y ∷ ys) zero zero x apart = absurd (apart refl)
get_set_beside (y ∷ ys) zero (suc n) x apart = refl
get_set_beside (y ∷ ys) (suc i) zero x apart = refl
get_set_beside (y ∷ ys) (suc i) (suc n) x apart = get_set_beside ys i n x (λ same. apart (ap suc same))

pub map_set : {X Y : Type 0} (f : X → Y) (xs : List X) (i : ℕ) (x y : X) → slice_get xs i ≡ Some y → f x ≡ f y
    → map f (slice_set xs i x) ≡ map f xs
map_set f [] i x y at same = refl
map_set f (z ∷ zs) zero x y at same = ap (λ first. first ∷ map f zs) (same ∙ sym (ap f (some_is z y at)))
map_set f (z ∷ zs) (suc i) x y at same = ap (λ rest. f z ∷ rest) (map_set f zs i x y at same)

pub get_front : {X : Type 0} (xs : List X) (x : X) (n : ℕ) → n ≢ length xs → slice_get (xs ++ x ∷ []) n ≡ slice_get xs n
get_front [] x zero apart = absurd (apart refl)
get_front [] x (suc n) apart = refl
get_front (y ∷ ys) x zero apart = refl
get_front (y ∷ ys) x (suc n) apart = get_front ys x n (λ same. apart (ap suc same))

pub get_last : {X : Type 0} (xs : List X) (x : X) → slice_get (xs ++ x ∷ []) (length xs) ≡ Some x
get_last [] x = refl
get_last (y ∷ ys) x = get_last ys x

pub get_past : {X : Type 0} (xs : List X) → slice_get xs (length xs) ≡ None
get_past [] = refl
get_past (y ∷ ys) = get_past ys

pub take_front : {X : Type 0} (xs rest : List X) → take (length xs) (xs ++ rest) ≡ xs
take_front [] rest = refl
take_front (x ∷ xs) rest = ap (λ more. x ∷ more) (take_front xs rest)

-- what is written over all items of a list
pub written : {X : Type 0} (count : ℕ) (xs items : List X) → length xs ≡ count
    → take count (xs ++ drop (length xs) items) ≡ xs
written count xs items same = ap (λ n. take n (xs ++ drop (length xs) items)) (sym same)
    ∙ take_front xs (drop (length xs) items)

pub same_count : (new old : List TableRows) → widths new ≡ widths old → length new ≡ length old
same_count new old same =
    sym (length-map new (λ (rows : TableRows). length rows.maps.items)) ∙ ap length same
    ∙ length-map old (λ (rows : TableRows). length rows.maps.items)

pub within : {X : Type 0} (xs : List X) (i : ℕ) (x : X) → slice_get xs i ≡ Some x → i < length xs
within [] i x h = absurd cc
within (y ∷ ys) zero x h = omega arith
within (y ∷ ys) (suc i) x h = let rest : i < length ys = within ys i x h in omega arith

-- ---- one map of a table

module _ (maps : List (Staged (List Datum))) (number : ℕ) (old new : Staged (List Datum))
    (at : slice_get maps number ≡ Some old) where
  pub seen_here : (value : List Datum) → seen_at (slice_set maps number new) number value ≡ seen new value
  seen_here value = ap (λ found. map_shown seen found value) (get_set_here maps number new (within maps number old at))

  pub seen_beside : (other : ℕ) → other ≢ number → (value : List Datum)
      → seen_at (slice_set maps number new) other value ≡ seen_at maps other value
  seen_beside other apart value = ap (λ found. map_shown seen found value) (get_set_beside maps number other new apart)

  pub keeps_map : Keeps old new → (other : ℕ) (value : List Datum)
      → kept_at (slice_set maps number new) other value ≡ kept_at maps other value
  keeps_map keeps other value = by_test (other == number)
      (λ here. let same : other ≡ number = number_is other number here in
      subst (λ n. kept_at (slice_set maps number new) n value ≡ kept_at maps n value) (sym same)
      (ap (λ found. map_shown kept found value) (get_set_here maps number new (within maps number old at))
      ∙ keeps.keeps value ∙ sym (ap (λ found. map_shown kept found value) at)))
      (λ beside. ap (λ found. map_shown kept found value)
      (get_set_beside maps number other new (number_apart other number beside)))

-- ---- values are put one after another, the last one first

put_last : (places : Places) (values : List (Option (List Datum))) (value : Option (List Datum))
    (row : Option (List Datum)) (found : List Datum)
    → put_at places (values ++ value ∷ []) row (length values) found
    ≡ (if is_row value found then row else places (length values) found)
put_last places values value row found =
    ap (λ at. if is_row (flat at) found then row else places (length values) found) (get_last values value)

put_past : (places : Places) (values : List (Option (List Datum))) (row : Option (List Datum)) (found : List Datum)
    → put_at places values row (length values) found ≡ places (length values) found
put_past places values row found =
    ap (λ at. if is_row (flat at) found then row else places (length values) found) (get_past values)

put_front : (places : Places) (values : List (Option (List Datum))) (value : Option (List Datum))
    (row : Option (List Datum)) (number : ℕ) → number ≢ length values → (found : List Datum)
    → put_at places (values ++ value ∷ []) row number found ≡ put_at places values row number found
put_front places values value row number apart found =
    ap (λ at. if is_row (flat at) found then row else places number found) (get_front values value number apart)

-- ---- one value

no_place_is : (b : Bool) (value : List Datum) (row under : Option (List Datum))
    → under ≡ (if b && is_row None value then row else under)
no_place_is true value row under = refl
no_place_is false value row under = refl

pub puts_nothing : (rows : TableRows) (number : ℕ) (value row : Option (List Datum)) → value ≡ None
    → PutsOne rows rows number value row
puts_nothing rows number value row none = record {
  sees = λ other found. no_place_is (other == number) found row (seen_at rows.maps.items other found)
      ∙ ap (λ one. if (other == number) && is_row one found then row else seen_at rows.maps.items other found)
      (sym none);
}

pub keeps_here : (rows : TableRows) → KeepsRows rows rows
keeps_here rows = record { keeps = λ number value. refl; width = refl }

map_there : (maps : List (Staged (List Datum))) (number : ℕ) (old : Staged (List Datum)) → number < length maps
    → old ≡ slice_index_or maps number old → slice_get maps number ≡ Some old
map_there maps number old low is = slice_get_read maps (length maps) number old refl low is

pub keeps_there : (rows new : TableRows) (number : ℕ) (old map : Staged (List Datum))
    → number < length rows.maps.items → old ≡ slice_index_or rows.maps.items number old
    → new.maps.items ≡ slice_set rows.maps.items number map → Keeps old map → KeepsRows rows new
keeps_there rows new number old map low is changed keeps = record {
  keeps = λ other value. ap (λ maps. kept_at maps other value) changed
      ∙ keeps_map rows.maps.items number old map (map_there rows.maps.items number old low is) keeps other value;
  width = ap length changed ∙ length-set rows.maps.items number map;
}

pub puts_there : (rows new : TableRows) (number : ℕ) (old map : Staged (List Datum)) (value : List Datum)
    (row : Option (List Datum)) → number < length rows.maps.items
    → old ≡ slice_index_or rows.maps.items number old → new.maps.items ≡ slice_set rows.maps.items number map
    → Puts old map value row → PutsOne rows new number (Some value) row
puts_there rows new number old map value row low is changed puts =
    let at : slice_get rows.maps.items number ≡ Some old = map_there rows.maps.items number old low is in
    record {
      sees = λ other found. ap (λ maps. seen_at maps other found) changed ∙ by_test (other == number)
          (λ here. let same : other ≡ number = number_is other number here in
          ap (λ n. seen_at (slice_set rows.maps.items number map) n found) same
          ∙ seen_here rows.maps.items number old map at found ∙ puts.sees found
          ∙ ap (λ under. if same_row value found then row else under)
          (sym (ap (λ one. map_shown seen one found) at) ∙ ap (λ n. seen_at rows.maps.items n found) (sym same))
          ∙ sym (ap (λ b. if b && same_row value found then row else seen_at rows.maps.items other found) here))
          (λ beside. seen_beside rows.maps.items number old map at other (number_apart other number beside) found
          ∙ sym (ap (λ b. if b && same_row value found then row else seen_at rows.maps.items other found) beside));
    }

-- ---- all values, the last one first

pub puts_next : (old new : TableRows) (values : List (Option (List Datum))) (value row : Option (List Datum))
    → PutsOne old new (length values) value row → (number : ℕ) (found : List Datum)
    → put_at (seen_at new.maps.items) values row number found
    ≡ put_at (seen_at old.maps.items) (values ++ value ∷ []) row number found
puts_next old new values value row one number found = by_test (number == length values)
    (λ here. let same : number ≡ length values = number_is number (length values) here in
    subst (λ n. put_at (seen_at new.maps.items) values row n found
    ≡ put_at (seen_at old.maps.items) (values ++ value ∷ []) row n found) (sym same)
    (put_past (seen_at new.maps.items) values row found
    ∙ one.sees (length values) found
    ∙ ap (λ b. if b && is_row value found then row else seen_at old.maps.items (length values) found)
    (number_itself (length values))
    ∙ sym (put_last (seen_at old.maps.items) values value row found)))
    (λ beside. let apart : number ≢ length values = number_apart number (length values) beside in
    ap (λ under. if is_row (value_of values number) found then row else under)
    (one.sees number found
    ∙ ap (λ b. if b && is_row value found then row else seen_at old.maps.items number found) beside)
    ∙ sym (put_front (seen_at old.maps.items) values value row number apart found))

-- maps in which nothing is found, one more than were counted
pub record Making (maps : List (Staged (List Datum))) (count : ℕ) : Type 0 where
  pub width : length maps ≡ count + 1
  pub kept_none : (number : ℕ) (value : List Datum) → kept_at maps number value ≡ None
  pub seen_none : (number : ℕ) (value : List Datum) → seen_at maps number value ≡ None

none_more : (show : Staged (List Datum) → List Datum → Option (List Datum)) (maps : List (Staged (List Datum)))
    (map : Staged (List Datum))
    → ((number : ℕ) (value : List Datum) → map_shown show (slice_get maps number) value ≡ None)
    → ((value : List Datum) → show map value ≡ None)
    → (number : ℕ) (value : List Datum) → map_shown show (slice_get (maps ++ map ∷ []) number) value ≡ None
none_more show [] map none bare zero value = bare value
none_more show [] map none bare (suc number) value = refl
none_more show (first ∷ maps) map none bare zero value = none zero value
none_more show (first ∷ maps) map none bare (suc number) value =
    none_more show maps map (λ n. none (suc n)) bare number value

pub making_more : (maps new : List (Staged (List Datum))) (map : Staged (List Datum)) (count : ℕ)
    → new ≡ maps ++ map ∷ [] → ((value : List Datum) → kept map value ≡ None)
    → ((value : List Datum) → seen map value ≡ None) → Making maps count → Making new (count + 1)
making_more maps new map count is unkept unseen making = record {
  width = ap length is ∙ length-append maps (map ∷ []) ∙ ap (λ n. n + 1) making.width;
  kept_none = λ number value. ap (λ all. kept_at all number value) is
      ∙ none_more kept maps map making.kept_none unkept number value;
  seen_none = λ number value. ap (λ all. seen_at all number value) is
      ∙ none_more seen maps map making.seen_none unseen number value;
}

-- so far: what the remaining values put is what all put, and what is kept stays
pub record Putting (maps : List (Staged (List Datum))) (values : List (Option (List Datum)))
    (first_maps : List (Staged (List Datum))) (first_values : List (Option (List Datum))) (row : Option (List Datum))
    : Type 0 where
  pub sees : (number : ℕ) (found : List Datum)
      → put_at (seen_at maps) values row number found ≡ put_at (seen_at first_maps) first_values row number found
  pub keeps : (number : ℕ) (found : List Datum) → kept_at maps number found ≡ kept_at first_maps number found
  pub width : length maps ≡ length first_maps
  pub fits : length values ≤ length maps

pub puts_step : (old new : TableRows) (first_maps : List (Staged (List Datum)))
    (values rest first_values : List (Option (List Datum))) (value row : Option (List Datum))
    → values ≡ rest ++ value ∷ []
    → PutsOne old new (length rest) value row → KeepsRows old new
    → Putting old.maps.items values first_maps first_values row
    → Putting new.maps.items rest first_maps first_values row
puts_step old new first_maps values rest first_values value row is one kept putting = record {
  sees = λ number found. puts_next old new rest value row one number found
      ∙ ap (λ list. put_at (seen_at old.maps.items) list row number found) (sym is) ∙ putting.sees number found;
  keeps = λ number found. kept.keeps number found ∙ putting.keeps number found;
  width = kept.width ∙ putting.width;
  fits = let long : length values ≡ length rest + 1 = ap length is ∙ length-append rest (value ∷ []) in
      let high : length values ≤ length old.maps.items = putting.fits in
      let same : length new.maps.items ≡ length old.maps.items = kept.width in
      omega arith;
}

pub puts_done : (old new : TableRows) (values first_values : List (Option (List Datum))) (row : Option (List Datum))
    → values ≡ []
    → Putting new.maps.items values old.maps.items first_values row → PutsRow old new first_values row
puts_done old new values first_values row none putting = record {
  sees = λ number found. ap (λ list. put_at (seen_at new.maps.items) list row number found) (sym none)
      ∙ putting.sees number found;
}

pub keeps_step : (old middle new : TableRows) (values first_values : List (Option (List Datum)))
    (row : Option (List Datum))
    → Putting middle.maps.items values old.maps.items first_values row → KeepsRows middle new → KeepsRows old new
keeps_step old middle new values first_values row putting kept = record {
  keeps = λ number found. kept.keeps number found ∙ putting.keeps number found;
  width = kept.width ∙ putting.width;
}

-- ---- the values of a row

pub free_values : (places : Places) (number : ℕ) (keys : List UniqueKey) (row : List Datum)
    → are_free places number (values_in keys row) ≡ is_free_from places number keys row
free_values places number [] row = refl
free_values places number (key ∷ keys) row =
    ap (λ b. is_none (found_at (places number) (key row)) && b) (free_values places (number + 1) keys row)

pub taken_values : (places : Places) (keys : List UniqueKey) (row shown_row : List Datum)
    (values found : List (Option (List Datum))) (b : Bool) → shown_row ≡ row
    → values ≡ values_in keys shown_row → found ≡ values → b ≡ are_free places 0 found
    → is_free_from places 0 keys row ≡ b
taken_values places keys row shown_row values found b same is_values is_found is =
    sym (is ∙ ap (are_free places 0) (is_found ∙ is_values ∙ ap (values_in keys) same) ∙ free_values places 0 keys row)

pub drop_next : {X : Type 0} (xs : List X) (i : ℕ) (d : X) → i < length xs
    → drop i xs ≡ slice_index_or xs i d ∷ drop (i + 1) xs
drop_next [] i d low = absurd (omega arith)
drop_next (x ∷ xs) zero d low = refl
drop_next (x ∷ xs) (suc i) d low =
    drop_next xs i d (omega arith)
    ∙ ap (λ k. slice_index_or xs i d ∷ drop k (x ∷ xs)) (let same : suc (i + 1) ≡ suc i + 1 = omega arith in same)

pub value_of_key : (keys : List UniqueKey) (number : ℕ) (row : List Datum)
    → value_of (values_in keys row) number ≡ value_in (slice_get keys number) row
value_of_key [] number row = refl
value_of_key (key ∷ keys) zero row = refl
value_of_key (key ∷ keys) (suc number) row = value_of_key keys number row

-- ---- one table of all

module _ (tables : List TableRows) (table : ℕ) (old new : TableRows) (at : slice_get tables table ≡ Some old) where
  rows_here : slice_get (slice_set tables table new) table ≡ Some new
  rows_here = get_set_here tables table new (within tables table old at)

  seen_table : (number : ℕ) (value : List Datum)
      → seen_in (slice_set tables table new) table number value ≡ seen_at new.maps.items number value
  seen_table number value = ap (λ found. seen_at (maps_of found) number value) rows_here

  pub seen_before : (number : ℕ) (value : List Datum)
      → seen_in tables table number value ≡ seen_at old.maps.items number value
  seen_before number value = ap (λ found. seen_at (maps_of found) number value) at

  seen_others : (other : ℕ) → other ≢ table → (number : ℕ) (value : List Datum)
      → seen_in (slice_set tables table new) other number value ≡ seen_in tables other number value
  seen_others other apart number value =
      ap (λ found. seen_at (maps_of found) number value) (get_set_beside tables table other new apart)

  pub keeps_tables : KeepsRows old new → KeepsTables tables (slice_set tables table new)
  keeps_tables keeps = record {
    keeps = λ other number value. by_test (other == table)
        (λ here. let same : other ≡ table = number_is other table here in
        subst (λ t. kept_in (slice_set tables table new) t number value ≡ kept_in tables t number value) (sym same)
        (ap (λ found. kept_at (maps_of found) number value) rows_here ∙ keeps.keeps number value
        ∙ sym (ap (λ found. kept_at (maps_of found) number value) at)))
        (λ beside. ap (λ found. kept_at (maps_of found) number value)
        (get_set_beside tables table other new (number_apart other table beside)));
    width = map_set (λ (rows : TableRows). length rows.maps.items) tables table new old at keeps.width;
  }

  -- the table's rows are these, and the others stay
  pub sees_tables : (wanted : Tables)
      → ((number : ℕ) (value : List Datum) → seen_at new.maps.items number value ≡ wanted table number value)
      → ((other : ℕ) → other ≢ table → (number : ℕ) (value : List Datum)
      → wanted other number value ≡ seen_in tables other number value)
      → SameTables (seen_in (slice_set tables table new)) wanted
  sees_tables wanted here others = λ other number value. by_test (other == table)
      (λ at_it. let same : other ≡ table = number_is other table at_it in
      subst (λ t. seen_in (slice_set tables table new) t number value ≡ wanted t number value) (sym same)
      (seen_table number value ∙ here number value))
      (λ beside. let apart : other ≢ table = number_apart other table beside in
      seen_others other apart number value ∙ sym (others other apart number value))

-- ---- what `put` of the definitions has in its table

pub put_is : (keys : Keys) (tables : Tables) (places : Places) (table : ℕ) (row : List Datum)
    (found : Option (List Datum)) (number : ℕ) (value : List Datum)
    → tables table number value ≡ places number value
    → put keys tables table row found table number value
    ≡ put_at places (values_in (keys table) row) found number value
put_is keys tables places table row found number value same =
    ap (λ b. if b && is_row (key_at keys table number row) value then found else tables table number value)
    (number_itself table)
    ∙ ap (λ key. if is_row key value then found else tables table number value)
    (sym (value_of_key (keys table) number row))
    ∙ ap (λ place. if is_row (value_of (values_in (keys table) row) number) value then found else place) same

-- and what it has in another
pub put_others : (keys : Keys) (tables : Tables) (table : ℕ) (row : List Datum) (found : Option (List Datum))
    (other : ℕ) → other ≢ table → (number : ℕ) (value : List Datum)
    → put keys tables table row found other number value ≡ tables other number value
put_others keys tables table row found other apart number value = by_test (table == other)
    (λ here. absurd (apart (sym (number_is table other here))))
    (λ beside. ap (λ b. if b && is_row (key_at keys table number row) value then found else tables other number value)
    beside)

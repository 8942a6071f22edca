-- A map's values are all that is found in it, each once; and the rows of a table in their order are those that are
-- found in it.
use Rattle.std.proofs.Common.{◌≡◌, ℕ, ℤ, suc, ◌+◌, ◌<◌, Bool, true, false, List, [], ◌∷◌, ◌++◌, length, get_or, map, refl, sym, ◌∙◌, ap, subst, arith}
use Rattle.std.specs.Prelude.{Option, Some, None, is_some, Contains, slice_get, if◌then◌else◌}
use Rattle.std.specs.BTreeMap.{BTreeMap, get, IsOrdered, is_at}
use Rattle.std.specs.Cmp.{Equal-is, IsTotalOrder, int_cmp_total}
use Rattle.std.specs.FinMap.{IsAntisymmetric, int_cmp-IsAntisymmetric}
use Rattle.std.specs.List.{AllByRecursion, IsDistinct, list_any}
use Rattle.std.specs.List.Sorted.{IsStrictlySortedBy, IsSorted}
use Rattle.std.specs.Map.{lookup, keys_of, values_of}
use Rattle.std.specs.Option.{option_map}
use Rattle.std.specs.Ordering.{eq_by_cmp, int_cmp, is_eq, is_lt, ordering_reverse}
use Rattle.std.specs.declared.cmp.Ordering.{Ordering}
use Rattle.std.specs.declared.cmp.Ordering.TheVariants.{Less, Equal, Greater}
use Rattle.std.proofs.lemmas.Cmp.{eq_by_cmp_equiv}
use Rattle.std.proofs.lemmas.List.{get_or-map, length-map, map-append}
use Rattle.std.proofs.lemmas.List.Elements.{Contains-append_left, Contains-append_right}
use Rattle.std.proofs.lemmas.List.Sorted.{Contains-permutation, IsPermutation-sym}
use Rattle.std.proofs.lemmas.Map.Entries.{lookup_head, lookup_tail}
use Rattle.std.proofs.lemmas.Map.Keys.{IsDistinct-from_sorted, IsDistinct-from_apart, IsDistinct-IsPermutation, apart_from_distinct, sorted_from_all_adjacent}
use Rattle.filter_tree.specs.Datum.{Datum}
use Rattle.filter_tree.specs.Order.{row_cmp}
use Rattle.filter_tree.specs.Same.{same_row}
use Rattle.filter_tree.proofs.OrderLemmas.{row_total, row_tie, ties_same_rows}
use Rattle.filter_tree.proofs.SameLemmas.{equal_from_same_row, same_row_of_equal}
use Rattle.tables_log.specs.Layers.{flat, filled, over, made_by_change, was_in, rewound, kept_under, kept_places, HasRoom}
use Rattle.tables_log.specs.Listing.{there, ListsFound, AreRowsOf}
use Rattle.tables_log.specs.NumberKeys.{number_of_key, number_key, by_number, HasNoNumber}
use Rattle.tables_log.specs.Places.{IsInOrder, kept_at, kept_in, maps_of, first_values, listed_in}
use Rattle.tables_log.specs.Staging.{kept, kept_values}
use Rattle.tables_log.proofs.LayerLemmas.{if_same, over_none, tests_same}
use Rattle.tables_log.proofs.NumberLemmas.{key_of_number, numbers_tie, not_true, number_apart, found_number, found_row, not_number}
use Rattle.tables_log.specs.declared.staged.Staged.{Staged}
use Rattle.tables_log.specs.declared.table_rows.TableRows.{TableRows}
use Rattle.filter_tree.proofs.Tests.{by_test}

-- ---- in the entries of a map

-- the keys of the places that are not empty
filled_keys : {K V : Type 0} → List (K × Option V) → List K
filled_keys [] = []
filled_keys ((key, None) ∷ entries) = filled_keys entries
filled_keys ((key, Some value) ∷ entries) = key ∷ filled_keys entries

contains_more : {A : Type 0} (first : A) (xs : List A) (x : A) → Contains xs x → Contains (first ∷ xs) x
contains_more first xs x has = (suc has.0, omega (arith, has.1), has.2)

-- all that is found by keys, of which no two tie
record Lists {K V : Type 0} (cmp : K → K → Ordering) (found : K → Option V) (listed : List V) : Type 0 where
  keys : List K
  once : IsDistinct (eq_by_cmp cmp) keys
  each : map found keys ≡ map there listed
  all : (key : K) (value : V) → found key ≡ Some value → Contains keys key

module _ {K : Type 0} (cmp : K → K → Ordering) (total : IsTotalOrder cmp) (exact : IsAntisymmetric cmp) where
  abbrev found_in : {V : Type 0} → List (K × Option V) → K → Option V
  found_in entries key = flat (lookup (is_at (cmp key)) entries)

  apart_filled : {V : Type 0} (key : K) (entries : List (K × Option V))
      → AllByRecursion (λ other. eq_by_cmp cmp key other ≡ false) (keys_of entries)
      → AllByRecursion (λ other. eq_by_cmp cmp key other ≡ false) (filled_keys entries)
  unfolding filled_keys
  apart_filled key [] h = tt
  apart_filled key ((other, None) ∷ entries) h = apart_filled key entries h.1
  apart_filled key ((other, Some value) ∷ entries) h = (h.0, apart_filled key entries h.1)

  once_filled : {V : Type 0} (entries : List (K × Option V)) → IsDistinct (eq_by_cmp cmp) (keys_of entries)
      → IsDistinct (eq_by_cmp cmp) (filled_keys entries)
  unfolding filled_keys IsDistinct
  once_filled [] h = tt
  once_filled ((key, None) ∷ entries) h = once_filled entries h.1
  once_filled ((key, Some value) ∷ entries) h = (apart_filled key entries h.0, once_filled entries h.1)

  -- what is found by another key than the first
  found_past : {V : Type 0} (key : K) (place : Option V) (entries : List (K × Option V)) (other : K)
      → eq_by_cmp cmp key other ≡ false
      → found_in ((key, place) ∷ entries) other ≡ found_in entries other
  found_past key place entries other apart =
      ap flat (lookup_tail (is_at (cmp other)) (key, place) entries ((eq_by_cmp_equiv total).symm other key ∙ apart))

  each_past : {V : Type 0} (key : K) (place : Option V) (entries : List (K × Option V)) (others : List K)
      → AllByRecursion (λ other. eq_by_cmp cmp key other ≡ false) others
      → map (found_in ((key, place) ∷ entries)) others ≡ map (found_in entries) others
  each_past key place entries [] h = refl
  each_past {V} key place entries (other ∷ others) h =
      ap (λ (first : Option V). first ∷ map (found_in ((key, place) ∷ entries)) others)
      (found_past key place entries other h.0)
      ∙ ap (λ (rest : List (Option V)). found_in entries other ∷ rest) (each_past key place entries others h.1)

  found_first : {V : Type 0} (key : K) (place : Option V) (entries : List (K × Option V))
      → found_in ((key, place) ∷ entries) key ≡ place
  found_first {V} key place entries =
      ap (λ (found : Option (Option V)). flat found)
      (lookup_head (is_at (cmp key)) (key, place) entries ((eq_by_cmp_equiv total).refl key))

  each_filled : {V : Type 0} (entries : List (K × Option V)) → IsDistinct (eq_by_cmp cmp) (keys_of entries)
      → map (found_in entries) (filled_keys entries) ≡ map there (filled (values_of entries))
  unfolding filled_keys IsDistinct
  each_filled [] h = refl
  each_filled ((key, None) ∷ entries) h =
      each_past key None entries (filled_keys entries) (apart_filled key entries h.0) ∙ each_filled entries h.1
  each_filled {V} ((key, Some value) ∷ entries) h =
      ap (λ (first : Option V). first ∷ map (found_in ((key, Some value) ∷ entries)) (filled_keys entries))
      (found_first key (Some value) entries)
      ∙ ap (λ (rest : List (Option V)). Some value ∷ rest)
      (each_past key (Some value) entries (filled_keys entries) (apart_filled key entries h.0)
      ∙ each_filled entries h.1)

  all_step : {V : Type 0} (key other : K) (place : Option V) (entries : List (K × Option V)) (value : V) (same : Bool)
      → eq_by_cmp cmp key other ≡ same
      → (found_in entries key ≡ Some value → Contains (filled_keys entries) key)
      → found_in ((other, place) ∷ entries) key ≡ Some value
      → Contains (filled_keys ((other, place) ∷ entries)) key
  unfolding filled_keys
  all_step {V} key other None entries value true same later found =
      let none = ap (λ (x : Option (Option V)). flat x) (lookup_head (is_at (cmp key)) (other, None) entries same) in
      absurd cc
  all_step key other (Some kept) entries value true same later found =
      (0, omega arith, sym (exact key other ((Equal-is (cmp key other)).0 same)))
  all_step {V} key other None entries value false apart later found =
      later (sym (ap (λ (x : Option (Option V)). flat x) (lookup_tail (is_at (cmp key)) (other, None) entries apart))
      ∙ found)
  all_step {V} key other (Some kept) entries value false apart later found =
      contains_more other (filled_keys entries) key
      (later (sym (ap (λ (x : Option (Option V)). flat x)
      (lookup_tail (is_at (cmp key)) (other, Some kept) entries apart)) ∙ found))

  all_filled : {V : Type 0} (entries : List (K × Option V)) (key : K) (value : V) → found_in entries key ≡ Some value
      → Contains (filled_keys entries) key
  all_filled [] key value found = absurd cc
  all_filled ((other, place) ∷ entries) key value found =
      all_step key other place entries value (eq_by_cmp cmp key other) refl (all_filled entries key value) found

  -- ---- in the entries of a map that is changed in place, each with what was kept there

  module _ {V : Type 0} (made : List K) (undo : List (K × Option V)) where
    abbrev rewound_at : K → Option V → Option V
    rewound_at key place = rewound cmp made undo key place

    rewound_entries : List (K × Option V) → List (K × Option V)
    rewound_entries [] = []
    rewound_entries ((key, place) ∷ entries) = (key, rewound_at key place) ∷ rewound_entries entries

    same_keys : (entries : List (K × Option V)) → keys_of (rewound_entries entries) ≡ keys_of entries
    unfolding rewound_entries
    same_keys [] = refl
    same_keys ((key, place) ∷ entries) = ap (λ (keys : List K). key ∷ keys) (same_keys entries)

    same_places : (entries : List (K × Option V))
        → values_of (rewound_entries entries) ≡ map (λ entry. rewound_at entry.0 entry.1) entries
    unfolding rewound_entries
    same_places [] = refl
    same_places ((key, place) ∷ entries) =
        ap (λ (places : List (Option V)). rewound_at key place ∷ places) (same_places entries)

    rewound_same : (key other : K) (place : Option V) → eq_by_cmp cmp key other ≡ true
        → rewound_at other place ≡ rewound_at key place
    rewound_same key other place same =
        sym (ap (λ (test : K → Bool). if list_any test made then None else over (lookup test undo) place)
        (tests_same total key other same))

    -- what is found by a key is what was kept of what is found by it
    looked_up : (entries : List (K × Option V)) (key : K)
        → lookup (is_at (cmp key)) (rewound_entries entries)
        ≡ option_map (rewound_at key) (lookup (is_at (cmp key)) entries)
    unfolding rewound_entries
    looked_up [] key = refl
    looked_up ((other, place) ∷ entries) key = by_test (eq_by_cmp cmp key other)
        (λ same.
        lookup_head (is_at (cmp key)) (other, rewound_at other place) (rewound_entries entries) same
        ∙ ap (λ (found : Option V). Some found) (rewound_same key other place same)
        ∙ sym (ap (option_map (rewound_at key)) (lookup_head (is_at (cmp key)) (other, place) entries same)))
        (λ apart.
        lookup_tail (is_at (cmp key)) (other, rewound_at other place) (rewound_entries entries) apart
        ∙ looked_up entries key
        ∙ sym (ap (option_map (rewound_at key)) (lookup_tail (is_at (cmp key)) (other, place) entries apart)))

    kept_flat : (key : K) (found : Option (Option V)) → (is_some (was_in cmp undo key) ≡ true → is_some found ≡ true)
        → flat (option_map (rewound_at key) found) ≡ rewound_at key (flat found)
    kept_flat key (Some place) room = refl
    kept_flat key None room =
        let nothing : over (was_in cmp undo key) None ≡ None =
        over_none (was_in cmp undo key) (λ has. let never : false ≡ true = room has in cc) in
        sym (ap (λ (x : Option V). if made_by_change cmp made key then None else x) nothing
        ∙ if_same (made_by_change cmp made key) None)

    found_rewound : (base : BTreeMap K (Option V)) → HasRoom cmp base undo → (key : K)
        → found_in (rewound_entries base.entries) key ≡ kept_under cmp base made undo key
    found_rewound base room key =
        ap flat (looked_up base.entries key) ∙ kept_flat key (get cmp base key) (room key)

  lists_entries : {V : Type 0} (entries : List (K × Option V)) → IsStrictlySortedBy cmp (keys_of entries)
      → Lists cmp (found_in entries) (filled (values_of entries))
  lists_entries entries ordered =
      let apart = IsDistinct-from_sorted cmp (keys_of entries) ordered in
      record {
        keys = filled_keys entries;
        once = once_filled entries apart;
        each = each_filled entries apart;
        all = all_filled entries;
      }

  lists_map : {V : Type 0} (base : BTreeMap K (Option V)) (made : List K) (undo : List (K × Option V))
      → IsOrdered cmp base → HasRoom cmp base undo
      → Lists cmp (kept_under cmp base made undo) (filled (kept_places cmp base made undo))
  lists_map {V} base made undo ordered room =
      let entries = rewound_entries made undo base.entries in
      let ascending = subst (IsStrictlySortedBy cmp) (sym (same_keys made undo base.entries)) ordered in
      subst (λ (found : K → Option V). Lists cmp found (filled (kept_places cmp base made undo)))
      (λ i key. found_rewound made undo base room key i)
      (subst (λ (places : List (Option V)). Lists cmp (found_in entries) (filled places))
      (same_places made undo base.entries) (lists_entries entries ascending))

-- ---- in two maps, one of which has the keys that are one number

all_append : {X : Type 0} (P : X → Type 0) (xs ys : List X) → AllByRecursion P xs → AllByRecursion P ys
    → AllByRecursion P (xs ++ ys)
all_append P [] ys h k = k
all_append P (x ∷ xs) ys h k = (h.0, all_append P xs ys h.1 k)

once_append : {X : Type 0} (same : X → X → Bool) (xs ys : List X) → IsDistinct same xs → IsDistinct same ys
    → AllByRecursion (λ x. AllByRecursion (λ y. same x y ≡ false) ys) xs → IsDistinct same (xs ++ ys)
unfolding IsDistinct
once_append same [] ys h k apart = k
once_append same (x ∷ xs) ys h k apart =
    (all_append (λ y. same x y ≡ false) xs ys h.0 apart.0, once_append same xs ys h.1 k apart.1)

same_from_ties : (keys : List (List Datum)) → IsDistinct (eq_by_cmp row_cmp) keys → IsDistinct same_row keys
same_from_ties keys h =
    IsDistinct-from_apart same_row keys (λ i j d before within.
    sym (ties_same_rows (get_or keys i d) (get_or keys j d))
    ∙ apart_from_distinct (eq_by_cmp row_cmp) keys i j d h before within)

numbers_apart : (number : ℤ) (others : List ℤ) → AllByRecursion (λ other. eq_by_cmp int_cmp number other ≡ false) others
    → AllByRecursion (λ other. same_row (number_key number) other ≡ false) (map number_key others)
numbers_apart number [] h = tt
numbers_apart number (other ∷ others) h = (sym (numbers_tie number other) ∙ h.0, numbers_apart number others h.1)

numbers_once : (numbers : List ℤ) → IsDistinct (eq_by_cmp int_cmp) numbers
    → IsDistinct same_row (map number_key numbers)
unfolding IsDistinct
numbers_once [] h = tt
numbers_once (number ∷ numbers) h = (numbers_apart number numbers h.0, numbers_once numbers h.1)

rows_apart : (number : ℤ) (keys : List (List Datum)) → AllByRecursion (λ key. number_of_key key ≡ None) keys
    → AllByRecursion (λ key. same_row (number_key number) key ≡ false) keys
rows_apart number [] h = tt
rows_apart number (key ∷ keys) h = (number_apart number key h.0, rows_apart number keys h.1)

all_apart : (numbers : List ℤ) (keys : List (List Datum)) → AllByRecursion (λ key. number_of_key key ≡ None) keys
    → AllByRecursion (λ one. AllByRecursion (λ key. same_row one key ≡ false) keys) (map number_key numbers)
all_apart [] keys h = tt
all_apart (number ∷ numbers) keys h = (rows_apart number keys h, all_apart numbers keys h)

not_numbers : {V : Type 0} (found : List Datum → Option V) (keys : List (List Datum)) (listed : List V)
    → HasNoNumber found → map found keys ≡ map there listed
    → AllByRecursion (λ key. number_of_key key ≡ None) keys
not_numbers found [] listed none each = tt
not_numbers found (key ∷ keys) [] none each = absurd cc
not_numbers found (key ∷ keys) (value ∷ listed) none each =
    let first : found key ≡ Some value = cc in
    let rest : map found keys ≡ map there listed = cc in
    (not_number found key value none first, not_numbers found keys listed none rest)

contains_number : (numbers : List ℤ) (number : ℤ) → Contains numbers number
    → Contains (map number_key numbers) (number_key number)
contains_number numbers number has = (
  has.0,
  omega (arith, length-map numbers number_key, has.1),
  get_or-map number_key numbers has.0 number (number_key number) has.1 ∙ ap number_key has.2,
)

module _ {V : Type 0} (of_number : ℤ → Option V) (of_row : List Datum → Option V) where
  each_number : (numbers : List ℤ) → map (by_number of_number of_row) (map number_key numbers) ≡ map of_number numbers
  each_number [] = refl
  each_number (number ∷ numbers) = ap (λ (rest : List (Option V)). of_number number ∷ rest) (each_number numbers)

  each_row : (keys : List (List Datum)) → AllByRecursion (λ key. number_of_key key ≡ None) keys
      → map (by_number of_number of_row) keys ≡ map of_row keys
  each_row [] h = refl
  each_row (key ∷ keys) h =
      ap (λ (first : Option V). first ∷ map (by_number of_number of_row) keys) (found_row of_number of_row key h.0)
      ∙ ap (λ (rest : List (Option V)). of_row key ∷ rest) (each_row keys h.1)

  module _ (some_listed others : List V) (some : Lists int_cmp of_number some_listed)
      (rest : Lists row_cmp of_row others) (none : HasNoNumber of_row) where
    none_of_rest : AllByRecursion (λ key. number_of_key key ≡ None) rest.keys
    none_of_rest = not_numbers of_row rest.keys others none rest.each

    contains_key : (key : List Datum) (value : V) (found : Option ℤ) → number_of_key key ≡ found
        → by_number of_number of_row key ≡ Some value
        → Contains (map number_key some.keys ++ rest.keys) key
    contains_key key value None is finds =
        Contains-append_right (map number_key some.keys) rest.keys key
        (rest.all key value (sym (found_row of_number of_row key is) ∙ finds))
    contains_key key value (Some number) is finds =
        Contains-append_left (map number_key some.keys) rest.keys key
        (subst (λ (one : List Datum). Contains (map number_key some.keys) one) (sym (key_of_number key number is))
        (contains_number some.keys number
        (some.all number value (sym (found_number of_number of_row key number is) ∙ finds))))

    lists_two : ListsFound (by_number of_number of_row) (some_listed ++ others)
    lists_two = record {
      keys = map number_key some.keys ++ rest.keys;
      once = once_append same_row (map number_key some.keys) rest.keys (numbers_once some.keys some.once)
          (same_from_ties rest.keys rest.once)
          (all_apart some.keys rest.keys none_of_rest);
      each = map-append (by_number of_number of_row) (map number_key some.keys) rest.keys
          ∙ ap (λ (first : List (Option V)). first ++ map (by_number of_number of_row) rest.keys)
          (each_number some.keys ∙ some.each)
          ∙ ap (λ (last : List (Option V)). map there some_listed ++ last) (each_row rest.keys none_of_rest ∙ rest.each)
          ∙ sym (map-append there some_listed others);
      all = λ key value finds. contains_key key value (number_of_key key) refl finds;
    }

pub lists_maps : {V : Type 0} (numbers : BTreeMap ℤ (Option V)) (numbers_made : List ℤ)
    (numbers_undo : List (ℤ × Option V))
    (rows : BTreeMap (List Datum) (Option V)) (rows_made : List (List Datum)) (rows_undo : List (List Datum × Option V))
    → IsOrdered int_cmp numbers → HasRoom int_cmp numbers numbers_undo → IsOrdered row_cmp rows
    → HasRoom row_cmp rows rows_undo
    → HasNoNumber (kept_under row_cmp rows rows_made rows_undo)
    → ListsFound (by_number (kept_under int_cmp numbers numbers_made numbers_undo)
    (kept_under row_cmp rows rows_made rows_undo))
    (filled (kept_places int_cmp numbers numbers_made numbers_undo)
    ++ filled (kept_places row_cmp rows rows_made rows_undo))
lists_maps numbers numbers_made numbers_undo rows rows_made rows_undo numbers_ordered numbers_room rows_ordered
    rows_room none =
    lists_two (kept_under int_cmp numbers numbers_made numbers_undo) (kept_under row_cmp rows rows_made rows_undo)
    (filled (kept_places int_cmp numbers numbers_made numbers_undo))
    (filled (kept_places row_cmp rows rows_made rows_undo))
    (lists_map int_cmp int_cmp_total int_cmp-IsAntisymmetric numbers numbers_made numbers_undo numbers_ordered
    numbers_room)
    (lists_map row_cmp row_total row_tie rows rows_made rows_undo rows_ordered rows_room) none

-- ---- in the maps of a table, of which the first is that of the primary key

pub lists_none : {V : Type 0} (found : List Datum → Option V) → ((key : List Datum) → found key ≡ None)
    → ListsFound found []
unfolding IsDistinct
lists_none found none =
    record { keys = []; once = tt; each = refl; all = λ key value is. let never = none key in absurd cc }

pub lists_no_map : (maps : List (Staged (List Datum))) → slice_get maps 0 ≡ None
    → ListsFound (kept_at maps 0) (first_values maps)
lists_no_map [] none = lists_none (kept_at [] 0) (λ key. refl)
lists_no_map (map ∷ maps) none = absurd cc

pub lists_first : (maps : List (Staged (List Datum))) (map : Staged (List Datum)) → slice_get maps 0 ≡ Some map
    → ListsFound (kept map) (kept_values map)
    → ListsFound (kept_at maps 0) (first_values maps)
lists_first [] map is lists = absurd cc
lists_first (first ∷ maps) map is lists =
    let same : map ≡ first = cc in
    subst (λ (m : Staged (List Datum)). ListsFound (kept m) (kept_values m)) same lists

pub lists_no_table : (tables : List TableRows) (table : ℕ) → slice_get tables table ≡ None
    → ListsFound (kept_in tables table 0) (listed_in tables table)
lists_no_table tables table none =
    subst (λ (found : Option TableRows). ListsFound (kept_at (maps_of found) 0) (first_values (maps_of found)))
    (sym none) (lists_none (kept_at [] 0) (λ key. refl))

pub lists_table : (tables : List TableRows) (table : ℕ) (rows : TableRows) → slice_get tables table ≡ Some rows
    → ListsFound (kept_at rows.maps.items 0) (first_values rows.maps.items)
    → ListsFound (kept_in tables table 0) (listed_in tables table)
lists_table tables table rows is lists =
    subst (λ (found : Option TableRows). ListsFound (kept_at (maps_of found) 0) (first_values (maps_of found)))
    (sym is) lists

-- ---- the rows of a table, when each row is found by at most one key

module _ (found : List Datum → Option (List Datum)) (listed : List (List Datum)) (lists : ListsFound found listed) where
  long : length lists.keys ≡ length listed
  long = sym (length-map lists.keys found) ∙ ap length lists.each ∙ length-map listed there

  -- the key and the row of each place
  found_by : (i : ℕ) (key row : List Datum) → i < length listed
      → found (get_or lists.keys i key) ≡ Some (get_or listed i row)
  found_by i key row within =
      sym (get_or-map found lists.keys i key None (omega (arith, long, within)))
      ∙ ap (λ (all : List (Option (List Datum))). get_or all i None) lists.each
      ∙ get_or-map there listed i row None within

  lists_row : (key row : List Datum) → found key ≡ Some row → Contains listed row
  lists_row key row is =
      let has = lists.all key row is in
      let within : has.0 < length listed = omega (arith, long, has.1) in
      let there : Some (get_or listed has.0 row) ≡ Some row = sym (found_by has.0 key row within) ∙ ap found has.2
      ∙ is in
      (has.0, within, cc)

  row_is_found : (row : List Datum) → Contains listed row → (key : List Datum) × (found key ≡ Some row)
  row_is_found row has =
      (get_or lists.keys has.0 [], found_by has.0 [] row has.1 ∙ ap (λ (x : List Datum). Some x) has.2)

  module _ (key_of : List Datum → Option (List Datum))
      (keyed : (key row : List Datum) → found key ≡ Some row → key_of row ≡ Some key) where
    one_key : (i j : ℕ) (d : List Datum) → i < length listed → j < length listed
        → get_or listed i d ≡ get_or listed j d → get_or lists.keys i d ≡ get_or lists.keys j d
    one_key i j d p q same =
        let first : key_of (get_or listed i d) ≡ Some (get_or lists.keys i d) = keyed _ _ (found_by i d d p) in
        let second : key_of (get_or listed j d) ≡ Some (get_or lists.keys j d) = keyed _ _ (found_by j d d q) in
        cc (ap key_of same)

    listed_once : IsDistinct same_row listed
    listed_once =
        IsDistinct-from_apart same_row listed (λ i j d before within.
        not_true (same_row (get_or listed i d) (get_or listed j d)) (λ same.
        let keys_same = one_key i j d (omega (arith, before, within)) within (equal_from_same_row _ _ same) in
        let apart = apart_from_distinct same_row lists.keys i j d lists.once before (omega (arith, long, within)) in
        let tie = same_row_of_equal _ _ keys_same in
        absurd cc))

flips : (one other : List Datum) → same_row one other ≡ same_row other one
flips one other = sym (ties_same_rows one other) ∙ (eq_by_cmp_equiv row_total).symm one other ∙ ties_same_rows other one

less_by : (order back : Ordering) → order ≡ ordering_reverse back → is_lt back ≡ false → is_eq order ≡ false
    → order ≡ Less
less_by Less back e p q = refl
less_by Equal back e p q = absurd cc
less_by Greater Less e p q = absurd cc
less_by Greater Equal e p q = absurd cc
less_by Greater Greater e p q = absurd cc

strictly : (rows : List (List Datum)) → IsSorted row_cmp rows → IsDistinct same_row rows
    → IsStrictlySortedBy row_cmp rows
strictly rows sorted once =
    sorted_from_all_adjacent row_total rows [] (λ k within.
    let one = get_or rows k [] in
    let other = get_or rows (k + 1) [] in
    less_by (row_cmp one other) (row_cmp other one) (row_total.antisymm one other) (sorted k [] (omega arith) within)
    (ties_same_rows one other ∙ apart_from_distinct same_row rows k (k + 1) [] once (omega arith) within))

pub rows_in_order : (found : List Datum → Option (List Datum)) (listed rows : List (List Datum))
    (key_of : List Datum → Option (List Datum))
    → ((key row : List Datum) → found key ≡ Some row → key_of row ≡ Some key) → ListsFound found listed
    → IsInOrder listed rows → AreRowsOf found rows
rows_in_order found listed rows key_of keyed lists in_order = record {
  all = λ key row is. Contains-permutation listed rows row in_order.same (lists_row found listed lists key row is);
  only = λ row has. row_is_found found listed lists row
      (Contains-permutation rows listed row (IsPermutation-sym listed rows in_order.same) has);
  ascending = strictly rows in_order.ascending
      (IsDistinct-IsPermutation same_row flips listed rows in_order.same
      (listed_once found listed lists key_of keyed));
}

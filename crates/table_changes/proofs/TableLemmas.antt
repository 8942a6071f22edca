-- Where rows of tables are, and what is preserved as they come and go.
use Rattle.std.proofs.Common.{◌≡◌, ℕ, zero, suc, ◌+◌, Bool, true, false, not, ◌&&◌, ◌||◌, List, [], ◌∷◌, refl, sym, ◌∙◌, ap, subst, arith}
use Rattle.std.specs.Prelude.{Option, Some, None, ◌==◌, is_none, is_some, slice_get}
use Rattle.std.specs.List.{list_any}
use Rattle.std.specs.Cmp.{unsigned_Decides}
use Rattle.filter_tree.specs.Datum.{Datum}
use Rattle.filter_tree.specs.Same.{same_row}
use Rattle.filter_tree.proofs.SameLemmas.{equal_from_same_row, same_row_of_equal}
use Rattle.table_changes.specs.Changes.{is_this, StayWhereTheyBelong}
use Rattle.table_changes.specs.Keys.{UniqueKey, Keys, value_in, key_at, HasPrimaryKeys}
use Rattle.table_changes.specs.Tables.{Tables, is_row, is_own, put, put_in, take_out, emptied, found_at, is_free_from, is_free, holds, Stands}
use Rattle.filter_tree.proofs.Tests.{by_test, or_false, and_not, and_false, both_true}

pub and_true : (b : Bool) → (b && true) ≡ b
and_true true = refl
and_true false = refl

same_table : (table : ℕ) → (table == table) ≡ true
same_table table = (unsigned_Decides table table).1 refl

pub some_is : {A : Type 0} (one other : A) → Some one ≡ Some other → one ≡ other
some_is one other h = cc

pub row_found : (found : Option (List Datum)) (row : List Datum) → is_row found row ≡ true → found ≡ Some row
row_found None row h = absurd cc
row_found (Some found) row h = ap Some (equal_from_same_row found row h)

found_row : (found : Option (List Datum)) (row : List Datum) → found ≡ Some row → is_row found row ≡ true
found_row None row h = absurd cc
found_row (Some found) row h = same_row_of_equal found row (some_is found row h)

-- ---- the places of a row

-- a place of a row is in its table, and has the row's value in the unique key
record IsOwn (keys : Keys) (table : ℕ) (row : List Datum) (other number : ℕ) (value : List Datum) : Type 0 where
  table_is : table ≡ other
  value_is : key_at keys other number row ≡ Some value

own_is : (keys : Keys) (table : ℕ) (row : List Datum) (other number : ℕ) (value : List Datum)
    → is_own keys table row other number value ≡ true
    → IsOwn keys table row other number value
own_is keys table row other number value h =
    let both = both_true (table == other) (is_row (key_at keys table number row) value) h in
    let same : table ≡ other = (unsigned_Decides table other).0 both.0 in
    record {
      table_is = same;
      value_is =
          subst (λ t. key_at keys t number row ≡ Some value) same
          (row_found (key_at keys table number row) value both.1);
    }

own_here : (keys : Keys) (table number : ℕ) (row value : List Datum) → key_at keys table number row ≡ Some value
    → is_own keys table row table number value ≡ true
own_here keys table number row value h =
    let tables : (table == table) ≡ true = same_table table in
    let values : is_row (key_at keys table number row) value ≡ true =
    found_row (key_at keys table number row) value h in
    rw (tables, values) refl

own_of : (keys : Keys) (table : ℕ) (row : List Datum) (other number : ℕ) (value : List Datum) → table ≡ other
    → key_at keys other number row ≡ Some value
    → is_own keys table row other number value ≡ true
own_of keys table row other number value same h =
    subst (λ t. is_own keys t row other number value ≡ true) (sym same) (own_here keys other number row value h)

put_own : (keys : Keys) (tables : Tables) (table : ℕ) (row : List Datum) (found : Option (List Datum))
    (other number : ℕ) (value : List Datum)
    → is_own keys table row other number value ≡ true → put keys tables table row found other number value ≡ found
put_own keys tables table row found other number value h = rw h refl

put_elsewhere : (keys : Keys) (tables : Tables) (table : ℕ) (row : List Datum) (found : Option (List Datum))
    (other number : ℕ) (value : List Datum)
    → is_own keys table row other number value ≡ false
    → put keys tables table row found other number value ≡ tables other number value
put_elsewhere keys tables table row found other number value h = rw h refl

-- ---- places that are free

pub at_zero : (number : ℕ) → number + 0 ≡ number
at_zero number = omega arith

pub zero_more : (number : ℕ) → 0 + number ≡ number
zero_more number = omega arith

pub at_next : (number k : ℕ) → number + suc k ≡ number + 1 + k
at_next number k = omega arith

nothing_at : (place : List Datum → Option (List Datum)) (found : Option (List Datum)) (value : List Datum)
    → found ≡ Some value → is_none (found_at place found) ≡ true
    → place value ≡ None
nothing_at place None value is h = absurd cc
nothing_at place (Some found) value is h =
    subst (λ v. place v ≡ None) (some_is found value is) (none_is (place found) h) where
      none_is : (o : Option (List Datum)) → is_none o ≡ true → o ≡ None
      none_is None k = refl
      none_is (Some x) k = absurd cc

free_from : (places : ℕ → List Datum → Option (List Datum)) (number : ℕ) (keys : List UniqueKey) (row : List Datum)
    → is_free_from places number keys row ≡ true
    → (k : ℕ) (value : List Datum) → value_in (slice_get keys k) row ≡ Some value → places (number + k) value ≡ None
free_from places number [] row h k value is = absurd cc
free_from places number (key ∷ keys) row h zero value is =
    let both = both_true (is_none (found_at (places number) (key row))) (is_free_from places (number + 1) keys row) h in
    subst (λ n. places n value ≡ None) (sym (at_zero number)) (nothing_at (places number) (key row) value is both.0)
free_from places number (key ∷ keys) row h (suc k) value is =
    let both = both_true (is_none (found_at (places number) (key row))) (is_free_from places (number + 1) keys row) h in
    subst (λ n. places n value ≡ None) (sym (at_next number k))
    (free_from places (number + 1) keys row both.1 k value is)

pub free_place : (keys : Keys) (tables : Tables) (table : ℕ) (row : List Datum) → is_free keys tables table row ≡ true
    → (number : ℕ) (value : List Datum) → key_at keys table number row ≡ Some value → tables table number value ≡ None
free_place keys tables table row h number value is =
    subst (λ n. tables table n value ≡ None) (zero_more number)
    (free_from (tables table) 0 (keys table) row h number value is)

-- ---- rows stay where they belong

pub put_keeps : (keys : Keys) (tables : Tables) (table : ℕ) (row : List Datum) → Stands keys tables
    → is_free keys tables table row ≡ true → Stands keys (put_in keys tables table row)
put_keeps keys tables table row stands free = record {
  keyed = λ other number value found h. by_test (is_own keys table row other number value)
      (λ own.
      let same : row ≡ found =
      some_is row found (sym (put_own keys tables table row (Some row) other number value own) ∙ h) in
      subst (λ r. key_at keys other number r ≡ Some value) same (own_is keys table row other number value own).value_is)
      (λ elsewhere. stands.keyed other number value found
      (sym (put_elsewhere keys tables table row (Some row) other number value elsewhere) ∙ h));
  whole = λ other number next value another found h k. by_test (is_own keys table row other number value)
      (λ own.
      let same : row ≡ found =
      some_is row found (sym (put_own keys tables table row (Some row) other number value own) ∙ h) in
      let next_own = own_of keys table row other next another (own_is keys table row other number value own).table_is
      (subst (λ r. key_at keys other next r ≡ Some another) (sym same) k) in
      put_own keys tables table row (Some row) other next another next_own ∙ ap Some same)
      (λ elsewhere.
      let before : tables other next another ≡ Some found =
      stands.whole other number next value another found
      (sym (put_elsewhere keys tables table row (Some row) other number value elsewhere) ∙ h) k in
      by_test (is_own keys table row other next another)
      (λ own. absurd (
      let place = own_is keys table row other next another own in
      let none : tables other next another ≡ None =
      free_place keys tables other row (subst (λ t. is_free keys tables t row ≡ true) place.table_is free) next
      another place.value_is in
      cc))
      (λ beside. put_elsewhere keys tables table row (Some row) other next another beside ∙ before));
}

pub take_keeps : (keys : Keys) (tables : Tables) (table place : ℕ) (at row : List Datum) → Stands keys tables
    → tables table place at ≡ Some row
    → Stands keys (take_out keys tables table row)
take_keeps keys tables table place at row stands there = record {
  keyed = λ other number value found h. by_test (is_own keys table row other number value)
      (λ own. absurd (let none = put_own keys tables table row None other number value own in cc))
      (λ elsewhere. stands.keyed other number value found
      (sym (put_elsewhere keys tables table row None other number value elsewhere) ∙ h));
  whole = λ other number next value another found h k. by_test (is_own keys table row other number value)
      (λ own. absurd (let none = put_own keys tables table row None other number value own in cc))
      (λ elsewhere.
      let here : tables other number value ≡ Some found =
      sym (put_elsewhere keys tables table row None other number value elsewhere) ∙ h in
      let before : tables other next another ≡ Some found = stands.whole other number next value another found here k in
      by_test (is_own keys table row other next another)
      (λ own. absurd (
      let next_place = own_is keys table row other next another own in
      let moved : tables other place at ≡ Some row =
      subst (λ t. tables t place at ≡ Some row) next_place.table_is there in
      let same : row ≡ found =
      some_is row found (sym (stands.whole other place next at another row moved next_place.value_is) ∙ before) in
      let key : key_at keys other number row ≡ Some value =
      subst (λ r. key_at keys other number r ≡ Some value) (sym same) (stands.keyed other number value found here)
      in
      let itself = own_of keys table row other number value next_place.table_is key in
      cc))
      (λ beside. put_elsewhere keys tables table row None other next another beside ∙ before));
}

emptied_here : (tables : Tables) (numbers : List ℕ) (other number : ℕ) (value : List Datum)
    → list_any (λ table. table == other) numbers ≡ true → emptied tables numbers other number value ≡ None
emptied_here tables numbers other number value h = rw h refl

emptied_elsewhere : (tables : Tables) (numbers : List ℕ) (other number : ℕ) (value : List Datum)
    → list_any (λ table. table == other) numbers ≡ false
    → emptied tables numbers other number value ≡ tables other number value
emptied_elsewhere tables numbers other number value h = rw h refl

pub emptied_keeps : (keys : Keys) (tables : Tables) (numbers : List ℕ) → Stands keys tables
    → Stands keys (emptied tables numbers)
emptied_keeps keys tables numbers stands = record {
  keyed = λ other number value found h. by_test (list_any (λ table. table == other) numbers)
      (λ named. absurd (let none = emptied_here tables numbers other number value named in cc))
      (λ elsewhere. stands.keyed other number value found
      (sym (emptied_elsewhere tables numbers other number value elsewhere) ∙ h));
  whole = λ other number next value another found h k. by_test (list_any (λ table. table == other) numbers)
      (λ named. absurd (let none = emptied_here tables numbers other number value named in cc))
      (λ elsewhere. emptied_elsewhere tables numbers other next another elsewhere
      ∙ stands.whole other number next value another found
      (sym (emptied_elsewhere tables numbers other number value elsewhere) ∙ h) k);
}

-- ---- rows that are in a table

-- the row is found by its primary key
pub record IsHeld (keys : Keys) (tables : Tables) (table : ℕ) (row : List Datum) : Type 0 where
  pub value : List Datum
  pub key : key_at keys table 0 row ≡ Some value
  pub there : tables table 0 value ≡ Some row

held_at : (keys : Keys) (tables : Tables) (table : ℕ) (row : List Datum) (key : Option (List Datum))
    → key_at keys table 0 row ≡ key → is_row (found_at (tables table 0) key) row ≡ true
    → IsHeld keys tables table row
held_at keys tables table row None is h = absurd cc
held_at keys tables table row (Some value) is h =
    record { value = value; key = is; there = row_found (tables table 0 value) row h }

pub held : (keys : Keys) (tables : Tables) (table : ℕ) (row : List Datum) → holds keys tables table row ≡ true
    → IsHeld keys tables table row
held keys tables table row h = held_at keys tables table row (key_at keys table 0 row) refl h

pub one_row : (keys : Keys) (tables : Tables) → Stands keys tables → (table number : ℕ) (one other value : List Datum)
    → holds keys tables table one ≡ true → holds keys tables table other ≡ true
    → key_at keys table number one ≡ Some value → key_at keys table number other ≡ Some value → one ≡ other
one_row keys tables stands table number one other value h k first second =
    let at = held keys tables table one h in
    let by = held keys tables table other k in
    some_is one other (sym (stands.whole table 0 number at.value value one at.there first)
    ∙ stands.whole table 0 number by.value value other by.there second)

-- ---- which rows are in a table

record HasKey (keys : Keys) (table : ℕ) (row : List Datum) : Type 0 where
  value : List Datum
  key : key_at keys table 0 row ≡ Some value

has_key_in : (keys : Keys) (table : ℕ) (row : List Datum) (found : Option (List Datum))
    → key_at keys table 0 row ≡ found → is_some found ≡ true → HasKey keys table row
has_key_in keys table row None is h = absurd cc
has_key_in keys table row (Some value) is h = record { value = value; key = is }

has_key : (keys : Keys) → HasPrimaryKeys keys → (table : ℕ) (row : List Datum) → HasKey keys table row
has_key keys keyed table row = has_key_in keys table row (key_at keys table 0 row) refl (keyed.has_key table row)

holds_by : (keys : Keys) (tables : Tables) (table : ℕ) (row value : List Datum) → key_at keys table 0 row ≡ Some value
    → holds keys tables table row ≡ is_row (tables table 0 value) row
holds_by keys tables table row value h = ap (λ found. is_row (found_at (tables table 0) found) row) h

-- a row that equals this one has the places of this one
this_own : (keys : Keys) (table : ℕ) (row : List Datum) (other : ℕ) (another value : List Datum)
    → key_at keys other 0 another ≡ Some value → is_own keys table row other 0 value ≡ false
    → is_this table row other another ≡ false
this_own keys table row other another value key h = by_test (is_this table row other another)
    (λ same. absurd (
    let both = both_true (table == other) (same_row row another) same in
    let rows : row ≡ another = equal_from_same_row row another both.1 in
    let own = own_of keys table row other 0 value ((unsigned_Decides table other).0 both.0)
    (subst (λ r. key_at keys other 0 r ≡ Some value) (sym rows) key) in
    cc))
    (λ differs. differs)

-- the row that comes is in the table, and the others are as before
pub holds_with : (keys : Keys) → HasPrimaryKeys keys → (tables : Tables) (table : ℕ) (row : List Datum)
    → is_free keys tables table row ≡ true
    → (other : ℕ) (another : List Datum)
    → holds keys (put_in keys tables table row) other another
    ≡ (is_this table row other another || holds keys tables other another)
holds_with keys keyed tables table row free other another =
    let its = has_key keys keyed other another in
    let after = holds_by keys (put_in keys tables table row) other another its.value its.key in
    let before = holds_by keys tables other another its.value its.key in
    by_test (is_own keys table row other 0 its.value)
    (λ own.
    let place = own_is keys table row other 0 its.value own in
    let none : tables other 0 its.value ≡ None =
    free_place keys tables other row (subst (λ t. is_free keys tables t row ≡ true) place.table_is free) 0 its.value
    place.value_is in
    let tables_same : (table == other) ≡ true = (unsigned_Decides table other).1 place.table_is in
    after ∙ ap (λ found. is_row found another) (put_own keys tables table row (Some row) other 0 its.value own)
    ∙ sym (ap (λ b. b && same_row row another) tables_same)
    ∙ sym (or_false (is_this table row other another))
    ∙ ap (λ b. is_this table row other another || b) (sym (before ∙ ap (λ found. is_row found another) none)))
    (λ elsewhere.
    after ∙ ap (λ found. is_row found another)
    (put_elsewhere keys tables table row (Some row) other 0 its.value elsewhere)
    ∙ sym before ∙ ap (λ b. b || holds keys tables other another)
    (sym (this_own keys table row other another its.value its.key elsewhere)))

-- the row that goes is no longer there, and the others are as before
pub holds_without : (keys : Keys) → HasPrimaryKeys keys → (tables : Tables) → Stands keys tables
    → (table place : ℕ) (at row : List Datum) → tables table place at ≡ Some row → (other : ℕ) (another : List Datum)
    → holds keys (take_out keys tables table row) other another
    ≡ (holds keys tables other another && not (is_this table row other another))
holds_without keys keyed tables stands table place at row there other another =
    let its = has_key keys keyed other another in
    let after = holds_by keys (take_out keys tables table row) other another its.value its.key in
    let before = holds_by keys tables other another its.value its.key in
    by_test (is_own keys table row other 0 its.value)
    (λ own.
    let at_key = own_is keys table row other 0 its.value own in
    let found : tables other 0 its.value ≡ Some row =
    stands.whole other place 0 at its.value row (subst (λ t. tables t place at ≡ Some row) at_key.table_is there)
    at_key.value_is in
    let tables_same : (table == other) ≡ true = (unsigned_Decides table other).1 at_key.table_is in
    after ∙ ap (λ o. is_row o another) (put_own keys tables table row None other 0 its.value own)
    ∙ sym (and_not (same_row row another))
    ∙ ap (λ b. same_row row another && not (b && same_row row another)) (sym tables_same)
    ∙ ap (λ b. b && not (is_this table row other another)) (sym (before ∙ ap (λ o. is_row o another) found)))
    (λ elsewhere.
    after ∙ ap (λ o. is_row o another) (put_elsewhere keys tables table row None other 0 its.value elsewhere)
    ∙ sym before ∙ sym (and_true (holds keys tables other another))
    ∙ ap (λ b. holds keys tables other another && not b)
    (sym (this_own keys table row other another its.value its.key elsewhere)))

-- a table that is emptied has no rows
pub holds_emptied : (keys : Keys) → HasPrimaryKeys keys
    → (tables : Tables) (numbers : List ℕ) (other : ℕ) (another : List Datum)
    → holds keys (emptied tables numbers) other another
    ≡ (holds keys tables other another && not (list_any (λ table. table == other) numbers))
holds_emptied keys keyed tables numbers other another =
    let its = has_key keys keyed other another in
    let after = holds_by keys (emptied tables numbers) other another its.value its.key in
    let before = holds_by keys tables other another its.value its.key in
    by_test (list_any (λ table. table == other) numbers)
    (λ named. after ∙ ap (λ o. is_row o another) (emptied_here tables numbers other 0 its.value named)
    ∙ sym (and_false (holds keys tables other another))
    ∙ ap (λ b. holds keys tables other another && not b) (sym named))
    (λ elsewhere. after ∙ ap (λ o. is_row o another) (emptied_elsewhere tables numbers other 0 its.value elsewhere)
    ∙ sym before ∙ sym (and_true (holds keys tables other another))
    ∙ ap (λ b. holds keys tables other another && not b) (sym elsewhere))

-- ---- a row that is in a table goes

pub row_goes : (keys : Keys) → HasPrimaryKeys keys → (tables : Tables) → Stands keys tables
    → (table : ℕ) (row : List Datum) → holds keys tables table row ≡ true
    → (other : ℕ) (another : List Datum)
    → holds keys (take_out keys tables table row) other another
    ≡ (holds keys tables other another && not (is_this table row other another))
row_goes keys keyed tables stands table row h other another =
    let at = held keys tables table row h in
    holds_without keys keyed tables stands table 0 at.value row at.there other another

pub others_stay : (keys : Keys) (tables : Tables) → Stands keys tables → StayWhereTheyBelong keys tables
others_stay keys tables stands = record {
  comes = λ table row free. put_keeps keys tables table row stands free;
  goes = λ table row h. let at = held keys tables table row h in
      take_keeps keys tables table 0 at.value row stands at.there;
  emptied_too = λ numbers. emptied_keeps keys tables numbers stands;
}

-- A row that is removed and one that is added, at the publisher and at a subscriber.
use Rattle.std.proofs.Common.{◌≡◌, Bool, true, false, not, ◌&&◌, ◌||◌, List, refl, sym, ◌∙◌, ap, subst}
use Rattle.std.specs.Prelude.{Option, Some, None, if◌then◌else◌}
use Rattle.filter_tree.specs.Datum.{Datum}
use Rattle.filter_tree.specs.Same.{same_row}
use Rattle.filter_tree.proofs.SameLemmas.{equal_from_same_row, same_row_of_equal}
use Rattle.table_changes.specs.Seen.{passing}
use Rattle.table_changes.specs.Tables.{is_row}
use Rattle.table_changes.proofs.TableLemmas.{and_true, some_is, row_found}
use Rattle.stream_laws.specs.ShardRows.{FindsRows}
use Rattle.std.proofs.lemmas.Bool.{and_parts, or_left, or_right, not-true}
use Rattle.filter_tree.proofs.Tests.{and_not, by_test, or_false, both_true}

-- the rows that are found by a key
abbrev pub Found : Type 0
Found = List Datum → Option (List Datum)

-- another row, or none, at this key
abbrev pub put : Found → List Datum → Option (List Datum) → Found
put found key row other = if same_row key other then row else found other

-- ---- a row is added, and a row is removed

put_here : (found : Found) (key : List Datum) (row : Option (List Datum)) (other : List Datum)
    → same_row key other ≡ true → put found key row other ≡ row
put_here found key row other h = rw h refl

put_beside : (found : Found) (key : List Datum) (row : Option (List Datum)) (other : List Datum)
    → same_row key other ≡ false → put found key row other ≡ found other
put_beside found key row other h = rw h refl

pub same_itself : (row : List Datum) → same_row row row ≡ true
same_itself row = same_row_of_equal row row refl

-- rows with other keys are others
pub keys_differ : (key_of : List Datum → List Datum) (one other : List Datum)
    → same_row (key_of one) (key_of other) ≡ false → same_row one other ≡ false
keys_differ key_of one other h = by_test (same_row one other)
    (λ same. absurd (let keys =
    same_row_of_equal (key_of one) (key_of other) (ap key_of (equal_from_same_row one other same)) in cc))
    (λ differ. differ)

pub finds_same : (key_of : List Datum → List Datum) (found : Found) (rows others : List Datum → Bool)
    → FindsRows key_of found rows → ((row : List Datum) → rows row ≡ others row)
    → FindsRows key_of found others
finds_same key_of found rows others finds same = record { keyed = finds.keyed; each = λ row. finds.each row ∙ same row }

pub finds_put : (key_of : List Datum → List Datum) (found : Found) (rows : List Datum → Bool) (new : List Datum)
    → FindsRows key_of found rows → found (key_of new) ≡ None
    → FindsRows key_of (put found (key_of new) (Some new)) (λ row. same_row new row || rows row)
finds_put key_of found rows new finds free = record {
  keyed = λ key row h. by_test (same_row (key_of new) key)
      (λ here.
      let same : new ≡ row = some_is new row (sym (put_here found (key_of new) (Some new) key here) ∙ h) in
      sym (ap key_of same) ∙ equal_from_same_row (key_of new) key here)
      (λ beside. finds.keyed key row (sym (put_beside found (key_of new) (Some new) key beside) ∙ h));
  each = λ row. by_test (same_row (key_of new) (key_of row))
      (λ here.
      let keys : key_of new ≡ key_of row = equal_from_same_row (key_of new) (key_of row) here in
      let none : found (key_of row) ≡ None = ap found (sym keys) ∙ free in
      let before : rows row ≡ false = sym (finds.each row) ∙ ap (λ o. is_row o row) none in
      ap (λ o. is_row o row) (put_here found (key_of new) (Some new) (key_of row) here)
      ∙ sym (or_false (same_row new row)) ∙ ap (λ b. same_row new row || b) (sym before))
      (λ beside.
      ap (λ o. is_row o row) (put_beside found (key_of new) (Some new) (key_of row) beside) ∙ finds.each row
      ∙ ap (λ b. b || rows row) (sym (keys_differ key_of new row beside)));
}

pub found_there : (key_of : List Datum → List Datum) (found : Found) (rows : List Datum → Bool) (row : List Datum)
    → FindsRows key_of found rows → rows row ≡ true
    → found (key_of row) ≡ Some row
found_there key_of found rows row finds h = row_found (found (key_of row)) row (finds.each row ∙ h)

pub finds_gone : (key_of : List Datum → List Datum) (found : Found) (rows : List Datum → Bool) (old : List Datum)
    → FindsRows key_of found rows → rows old ≡ true
    → FindsRows key_of (put found (key_of old) None) (λ row. rows row && not (same_row old row))
finds_gone key_of found rows old finds there = record {
  keyed = λ key row h. by_test (same_row (key_of old) key)
      (λ here. absurd (let none = put_here found (key_of old) None key here in cc))
      (λ beside. finds.keyed key row (sym (put_beside found (key_of old) None key beside) ∙ h));
  each = λ row. by_test (same_row (key_of old) (key_of row))
      (λ here.
      let keys : key_of old ≡ key_of row = equal_from_same_row (key_of old) (key_of row) here in
      let at : found (key_of row) ≡ Some old = ap found (sym keys) ∙ found_there key_of found rows old finds there in
      let before : rows row ≡ same_row old row = sym (finds.each row) ∙ ap (λ o. is_row o row) at in
      ap (λ o. is_row o row) (put_here found (key_of old) None (key_of row) here)
      ∙ sym (and_not (same_row old row)) ∙ ap (λ b. b && not (same_row old row)) (sym before))
      (λ beside.
      ap (λ o. is_row o row) (put_beside found (key_of old) None (key_of row) beside) ∙ finds.each row
      ∙ sym (and_true (rows row))
      ∙ ap (λ b. rows row && not b) (sym (keys_differ key_of old row beside)));
}

-- ---- a row is removed and another is added

-- the rows afterwards: the new one, and of those before it all but the old one
abbrev pub swapped : Option (List Datum) → Option (List Datum) → (List Datum → Bool) → List Datum → Bool
swapped old new rows row = is_row new row || (rows row && not (is_row old row))

-- What is known of a change of the rows of a table that was accepted: the old row existed, the new one did not, except
-- at the old one's place, and no two rows have the same key afterwards.
pub record Swaps (key_of : List Datum → List Datum) (old new : Option (List Datum)) (rows : List Datum → Bool) : Type
    0 where
  pub there : (row : List Datum) → old ≡ Some row → rows row ≡ true
  pub room : (row : List Datum) → new ≡ Some row → rows row ≡ true → old ≡ Some row
  pub apart : (one other : List Datum) → swapped old new rows one ≡ true → swapped old new rows other ≡ true
      → key_of one ≡ key_of other → one ≡ other

pub is_it : (found : Option (List Datum)) (row : List Datum) → found ≡ Some row → is_row found row ≡ true
is_it None row h = absurd cc
is_it (Some found) row h = same_row_of_equal found row (some_is found row h)

still_there : (p q : Bool) → p ≡ true → q ≡ false → (p && not q) ≡ true
still_there p q h k = rw (h, k) refl

-- the place of the new row is free if all rows that are found differ from the old one
pub vacant : (key_of : List Datum → List Datum) (old : Option (List Datum)) (new : List Datum)
    (rows found_rows : List Datum → Bool) (found : Found)
    → Swaps key_of old (Some new) rows → FindsRows key_of found found_rows
    → ((row : List Datum) → found_rows row ≡ true → (rows row ≡ true) × (is_row old row ≡ false))
    → found (key_of new) ≡ None
vacant key_of old new rows found_rows found swaps finds others = at (found (key_of new)) refl
  where
    at : (o : Option (List Datum)) → found (key_of new) ≡ o → found (key_of new) ≡ None
    at None e = e
    at (Some row) e = absurd (
        let keys : key_of row ≡ key_of new = finds.keyed (key_of new) row e in
        let here : found (key_of row) ≡ Some row = ap found keys ∙ e in
        let is_there : found_rows row ≡ true = sym (finds.each row) ∙ is_it (found (key_of row)) row here in
        let other = others row is_there in
        let one : swapped old (Some new) rows row ≡ true =
        or_right (same_row new row) (rows row && not (is_row old row))
        (still_there (rows row) (is_row old row) other.0 other.1) in
        let two : swapped old (Some new) rows new ≡ true =
        or_left (same_row new new) (rows new && not (is_row old new)) (same_itself new) in
        let same : row ≡ new = swaps.apart row new one two keys in
        let was : old ≡ Some row = swaps.room row (ap Some (sym same)) other.0 in
        let hit : is_row old row ≡ true = is_it old row was in
        cc)

-- ---- of the rows that pass

pub passes_row : (passes : List Datum → Bool) (found : Option (List Datum)) (row : List Datum)
    → is_row (passing passes found) row ≡ (is_row found row && passes row)
passes_row passes None row = refl
passes_row passes (Some found) row = by_test (same_row found row)
    (λ same. by_pass (passes found) refl same ∙ ap passes (equal_from_same_row found row same)
    ∙ ap (λ b. b && passes row) (sym same))
    (λ differ. none_of (passes found) differ ∙ ap (λ b. b && passes row) (sym differ))
  where
    none_of : (b : Bool) → same_row found row ≡ false → is_row (if b then Some found else None) row ≡ false
    none_of true h = h
    none_of false h = refl

    by_pass : (b : Bool) → passes found ≡ b → same_row found row ≡ true → is_row (passing passes (Some found)) row ≡ b
    by_pass true e h = rw e h
    by_pass false e h = rw e refl

pub passing_some : (passes : List Datum → Bool) (found : Option (List Datum)) (row : List Datum)
    → passing passes found ≡ Some row → (found ≡ Some row) × (passes row ≡ true)
passing_some passes None row h = absurd cc
passing_some passes (Some found) row h = by_pass (passes found) refl
  where
    by_pass : (b : Bool) → passes found ≡ b → (Some found ≡ Some row) × (passes row ≡ true)
    by_pass true e = let same : found ≡ row = some_is found row (sym (rw e refl) ∙ h) in
        (ap Some same, ap passes (sym same) ∙ e)
    by_pass false e = absurd (let none : passing passes (Some found) ≡ None = rw e refl in cc)

distribute : (n h o p : Bool) → ((n || (h && not o)) && p) ≡ ((n && p) || ((h && p) && not (o && p)))
distribute true true true true = refl
distribute true true false true = refl
distribute true true o false = refl
distribute true false o true = refl
distribute true false o false = refl
distribute false true true true = refl
distribute false true true false = refl
distribute false true false true = refl
distribute false true false false = refl
distribute false false o p = refl

-- the rows that pass are afterwards those that would exist if only rows that pass were added and removed
pub shard_swapped : (passes : List Datum → Bool) (old new : Option (List Datum)) (rows : List Datum → Bool)
    (row : List Datum)
    → swapped (passing passes old) (passing passes new) (λ r. rows r && passes r) row
    ≡ (swapped old new rows row && passes row)
shard_swapped passes old new rows row =
    ap (λ b. b || ((rows row && passes row) && not (is_row (passing passes old) row))) (passes_row passes new row)
    ∙ ap (λ b. (is_row new row && passes row) || ((rows row && passes row) && not b)) (passes_row passes old row)
    ∙ sym (distribute (is_row new row) (rows row) (is_row old row) (passes row))

-- ---- what a subscriber does with what it sees

-- after what is seen of an old row and a new one, each if it passes: a row that is removed is found, one that is added
-- has a free key, and then these rows are found
abbrev pub IsDone : (List Datum → List Datum) → Found → Option (List Datum) → Option (List Datum)
    → (List Datum → Bool) → Type 0
IsDone key_of found None None after = FindsRows key_of found after
IsDone key_of found None (Some new) after = (found (key_of new) ≡ None)
    × FindsRows key_of (put found (key_of new) (Some new)) after
IsDone key_of found (Some old) None after = (found (key_of old) ≡ Some old)
    × FindsRows key_of (put found (key_of old) None) after
IsDone key_of found (Some old) (Some new) after =
    (found (key_of old) ≡ Some old) × (put found (key_of old) None (key_of new) ≡ None)
    × FindsRows key_of (put (put found (key_of old) None) (key_of new) (Some new)) after

module _ (key_of : List Datum → List Datum) (passes : List Datum → Bool) (found : Found)
    (old new : Option (List Datum)) (rows : List Datum → Bool)
    (swaps : Swaps key_of old new rows) (finds : FindsRows key_of found (λ row. rows row && passes row)) where
  shard : List Datum → Bool
  shard row = rows row && passes row

  after : List Datum → Bool
  after row = swapped old new rows row && passes row

  to_after : (away coming : Option (List Datum)) → passing passes old ≡ away → passing passes new ≡ coming
      → (row : List Datum)
      → swapped away coming (λ r. rows r && passes r) row ≡ (swapped old new rows row && passes row)
  to_after away coming e f row =
      ap (λ o. swapped o coming (λ r. rows r && passes r) row) (sym e)
      ∙ ap (λ o. swapped (passing passes old) o (λ r. rows r && passes r) row) (sym f)
      ∙ shard_swapped passes old new rows row

  with_new : (row : List Datum) → new ≡ Some row → Swaps key_of old (Some row) rows
  with_new row e = subst (λ o. Swaps key_of old o rows) e swaps

  passes_itself : (row : List Datum) → old ≡ Some row → passes row ≡ true → (rows row && passes row) ≡ true
  passes_itself row e h = rw (swaps.there row e, h) refl

  not_struck : (row : List Datum) → passing passes old ≡ None → (rows row && passes row) ≡ true → (rows row ≡ true)
      × (is_row old row ≡ false)
  not_struck row e h =
      let both = both_true (rows row) (passes row) h in (
        both.0,
        by_test (is_row old row)
            (λ hit. absurd (let none : (is_row old row && passes row) ≡ false = sym (passes_row passes old row)
            ∙ ap (λ o. is_row o row) e in
            let all : (is_row old row && passes row) ≡ true = rw (hit, both.1) refl in cc))
            (λ miss. miss),
      )

  by_both : (away coming : Option (List Datum)) → passing passes old ≡ away → passing passes new ≡ coming
      → IsDone key_of found away coming (λ row. swapped old new rows row && passes row)
  by_both None None e f =
      finds_same key_of found (λ row. rows row && passes row) _ finds
      (λ row. sym (and_true (rows row && passes row)) ∙ to_after None None e f row)
  by_both None (Some coming) e f =
      let is = passing_some passes new coming f in
      let free : found (key_of coming) ≡ None =
      vacant key_of old coming rows (λ row. rows row && passes row) found (with_new coming is.0) finds
      (λ row h. not_struck row e h) in (
        free,
        finds_same key_of (put found (key_of coming) (Some coming))
            (λ row. same_row coming row || (rows row && passes row)) _
            (finds_put key_of found (λ row. rows row && passes row) coming finds free)
            (λ row. ap (λ b. same_row coming row || b) (sym (and_true (rows row && passes row)))
            ∙ to_after None (Some coming) e f row),
      )
  by_both (Some away) None e f =
      let was = passing_some passes old away e in
      let there = passes_itself away was.0 was.1 in (
        found_there key_of found (λ row. rows row && passes row) away finds there,
        finds_same key_of (put found (key_of away) None) (λ row. (rows row && passes row) && not (same_row away row)) _
            (finds_gone key_of found (λ row. rows row && passes row) away finds there)
            (λ row. to_after (Some away) None e f row),
      )
  by_both (Some away) (Some coming) e f =
      let was = passing_some passes old away e in
      let is = passing_some passes new coming f in
      let there = passes_itself away was.0 was.1 in
      let left = finds_gone key_of found (λ row. rows row && passes row) away finds there in
      let free : put found (key_of away) None (key_of coming) ≡ None =
      vacant key_of old coming rows (λ row. (rows row && passes row) && not (same_row away row))
      (put found (key_of away) None) (with_new coming is.0) left
      (λ row h. (
        (and_parts (rows row) (passes row) (and_parts (rows row && passes row) (not (same_row away row)) h).0).0,
        ap (λ o. is_row o row) was.0
            ∙ not-true (same_row away row) (and_parts (rows row && passes row) (not (same_row away row)) h).1,
      )) in (
        found_there key_of found (λ row. rows row && passes row) away finds there,
        free,
        finds_same key_of (put (put found (key_of away) None) (key_of coming) (Some coming))
            (λ row. same_row coming row || ((rows row && passes row) && not (same_row away row))) _
            (finds_put key_of (put found (key_of away) None)
            (λ row. (rows row && passes row) && not (same_row away row)) coming left free)
            (λ row. to_after (Some away) (Some coming) e f row),
      )

  pub follows_swap : IsDone key_of found (passing passes old) (passing passes new)
      (λ row. swapped old new rows row && passes row)
  follows_swap = by_both (passing passes old) (passing passes new) refl refl

-- What an accepted command changes of a subscriber's shard, as the subscriber sees it.
use Rattle.std.proofs.Common.{◌≡◌, ℕ, Bool, true, false, not, ◌&&◌, ◌||◌, List, [], ◌∷◌, ◌++◌, refl, sym, ◌∙◌, ap, subst}
use Rattle.std.specs.Prelude.{Option, Some, None, ◌==◌, nat_eq, filter, fold, is_some, if◌then◌else◌}
use Rattle.std.specs.List.{list_any}
use Rattle.std.specs.Cmp.{unsigned_Decides}
use Rattle.std.proofs.lemmas.List.Folds.{list_any-append}
use Rattle.std.proofs.lemmas.Map.Views.{any-filter_same}
use Rattle.filter_tree.specs.Datum.{Datum}
use Rattle.filter_tree.specs.Lists.{with_item, distinct}
use Rattle.filter_tree.specs.Same.{same_row}
use Rattle.filter_tree.specs.declared.validity.RowFault.{RowFault}
use Rattle.filter_tree.proofs.SameLemmas.{same_row_of_equal}
use Rattle.table_changes.specs.Changes.{is_this, is_named}
use Rattle.table_changes.specs.Commands.{Insert, Update, Delete, Truncate, CommandFault, NoTable, NoSuchRow, DuplicateKey, unless_unfit, named, fault_of, applied}
use Rattle.table_changes.specs.Keys.{key_at, HasPrimaryKeys}
use Rattle.table_changes.specs.Seen.{passing}
use Rattle.table_changes.specs.Setting.{Setting, fits}
use Rattle.table_changes.specs.Standing.{Apart, AllFit, Covered}
use Rattle.table_changes.specs.Tables.{Tables, is_row, found_at, take_out, without, is_free, holds, Stands}
use Rattle.table_changes.proofs.ChangeLemmas.{rows_stand, no_unless}
use Rattle.table_changes.proofs.TableLemmas.{free_place, held, holds_without, and_true, row_found, some_is}
use Rattle.stream_laws.specs.ShardRows.{FindsRows, in_shard, FindsShard}
use Rattle.stream_laws.proofs.SwapLemmas.{Found, Swaps, swapped, IsDone, follows_swap, finds_same, is_it}
use Rattle.std.proofs.lemmas.Bool.{or_left, eq-eqb, eqb-true}
use Rattle.filter_tree.proofs.Tests.{by_test, or_false, and_false}

-- ---- what it takes to be accepted

no_unfit : (fault : Option RowFault) (next : Option CommandFault) → unless_unfit fault next ≡ None → next ≡ None
no_unfit None next h = h
no_unfit (Some fault) next h = absurd cc

free_of_insert : (setting : Setting) (tables : Tables) (table : ℕ) (row : List Datum)
    → fault_of setting tables (Insert table row) ≡ None → is_free setting.keys tables table row ≡ true
free_of_insert setting tables table row h =
    (no_unless (is_free setting.keys tables table row) DuplicateKey None
    (no_unfit (setting.fault table row) _ (no_unless (setting.known table) NoTable _ h).1)).0

free_of_update : (setting : Setting) (tables : Tables) (table : ℕ) (key row : List Datum)
    → fault_of setting tables (Update table key row) ≡ None
    → is_free setting.keys (without setting.keys tables table (named tables table key)) table row ≡ true
free_of_update setting tables table key row h =
    let found = no_unless (is_some (named tables table key)) NoSuchRow _
    (no_unfit (setting.fault table row) _ (no_unless (setting.known table) NoTable _ h).1) in
    (no_unless (is_free setting.keys (without setting.keys tables table (named tables table key)) table row)
    DuplicateKey None found.1).0

-- ---- the rows of the table of a change, and those of others

pub record ChangesRows (setting : Setting) (before after : Tables) (table : ℕ) (old new : Option (List Datum)) : Type
    0 where
  pub here : (row : List Datum)
      → holds setting.keys after table row ≡ swapped old new (holds setting.keys before table) row
  pub beside : (other : ℕ) (row : List Datum) → (table == other) ≡ false
      → holds setting.keys after other row ≡ holds setting.keys before other row
  pub there : (row : List Datum) → old ≡ Some row → holds setting.keys before table row ≡ true
  pub room : (row : List Datum) → new ≡ Some row → holds setting.keys before table row ≡ true → old ≡ Some row

-- a row that a key names exists
named_there : (setting : Setting) (tables : Tables) → Stands setting.keys tables → (table : ℕ) (key row : List Datum)
    → named tables table key ≡ Some row
    → holds setting.keys tables table row ≡ true
named_there setting tables stands table key row h =
    let keyed : key_at setting.keys table 0 row ≡ Some key = stands.keyed table 0 key row h in
    ap (λ found. is_row (found_at (tables table 0) found) row) keyed ∙ ap (λ found. is_row found row) h
    ∙ same_row_of_equal row row refl

not_free : (setting : Setting) (tables : Tables) (table : ℕ) (row : List Datum)
    → is_free setting.keys tables table row ≡ true → holds setting.keys tables table row ≡ true → ⊥
not_free setting tables table row free h =
    let at = held setting.keys tables table row h in
    let none : tables table 0 at.value ≡ None = free_place setting.keys tables table row free 0 at.value at.key in
    let some : tables table 0 at.value ≡ Some row = at.there in
    cc

same_new : (setting : Setting) (table : ℕ) (new row : List Datum) (others : Bool)
    → (is_this table new table row || others) ≡ (same_row new row || others)
same_new setting table new row others = ap (λ b. (b && same_row new row) || others) (eq-eqb table table refl)

same_old : (table : ℕ) (old : Option (List Datum)) (row : List Datum) (first : Bool)
    → (first && not ((table == table) && is_row old row)) ≡ (first && not (is_row old row))
same_old table old row first = ap (λ b. first && not (b && is_row old row)) (eq-eqb table table refl)

pub insert_changes : (setting : Setting) → HasPrimaryKeys setting.keys → (tables : Tables)
    → Stands setting.keys tables → (table : ℕ) (new : List Datum)
    → fault_of setting tables (Insert table new) ≡ None
    → ChangesRows setting tables (applied setting tables (Insert table new)) table None (Some new)
insert_changes setting has tables stands table new h = record {
  here = λ row. rows_stand setting has tables (Insert table new) h stands table row
      ∙ same_new setting table new row (holds setting.keys tables table row)
      ∙ ap (λ b. same_row new row || b) (sym (and_true (holds setting.keys tables table row)));
  beside = λ other row differ. rows_stand setting has tables (Insert table new) h stands other row
      ∙ ap (λ b. (b && same_row new row) || holds setting.keys tables other row) differ;
  there = λ row e. absurd cc;
  room = λ row e h2. absurd
      (not_free setting tables table row
      (subst (λ r. is_free setting.keys tables table r ≡ true) (some_is new row e)
      (free_of_insert setting tables table new h)) h2);
}

-- without the row that was named, only its place becomes free for a row
left_free : (setting : Setting) → HasPrimaryKeys setting.keys → (tables : Tables) → Stands setting.keys tables
    → (table : ℕ) (key new : List Datum) (old : Option (List Datum))
    → named tables table key ≡ old → is_free setting.keys (without setting.keys tables table old) table new ≡ true
    → holds setting.keys tables table new ≡ true → old ≡ Some new
left_free setting has tables stands table key new None e free h = absurd (not_free setting tables table new free h)
left_free setting has tables stands table key new (Some old) e free h = by_test (same_row old new)
    (λ same. row_found (Some old) new same)
    (λ differ. absurd (not_free setting (take_out setting.keys tables table old) table new free
    (holds_without setting.keys has tables stands table 0 key old e table new
    ∙ ap (λ b. holds setting.keys tables table new && not (b && same_row old new)) (eq-eqb table table refl)
    ∙ ap (λ b. holds setting.keys tables table new && not b) differ ∙ and_true (holds setting.keys tables table new)
    ∙ h)))

pub update_changes : (setting : Setting) → HasPrimaryKeys setting.keys → (tables : Tables)
    → Stands setting.keys tables → (table : ℕ) (key new : List Datum)
    → fault_of setting tables (Update table key new) ≡ None
    → ChangesRows setting tables (applied setting tables (Update table key new)) table (named tables table key)
    (Some new)
update_changes setting has tables stands table key new h = record {
  here = λ row. rows_stand setting has tables (Update table key new) h stands table row
      ∙ same_new setting table new row
      (holds setting.keys tables table row && not (is_named tables table key table row))
      ∙ ap (λ b. same_row new row || b)
      (same_old table (named tables table key) row (holds setting.keys tables table row));
  beside = λ other row differ. rows_stand setting has tables (Update table key new) h stands other row
      ∙ ap (λ b. (b && same_row new row)
      || (holds setting.keys tables other row && not (b && is_row (named tables table key) row))) differ
      ∙ and_true (holds setting.keys tables other row);
  there = λ row e. named_there setting tables stands table key row e;
  room = λ row e h2. subst (λ r. holds setting.keys tables table r ≡ true → named tables table key ≡ Some r)
      (some_is new row e)
      (λ held. left_free setting has tables stands table key new (named tables table key) refl
      (free_of_update setting tables table key new h) held) h2;
}

pub delete_changes : (setting : Setting) → HasPrimaryKeys setting.keys → (tables : Tables)
    → Stands setting.keys tables → (table : ℕ) (key : List Datum)
    → fault_of setting tables (Delete table key) ≡ None
    → ChangesRows setting tables (applied setting tables (Delete table key)) table (named tables table key) None
delete_changes setting has tables stands table key h = record {
  here = λ row. rows_stand setting has tables (Delete table key) h stands table row
      ∙ same_old table (named tables table key) row (holds setting.keys tables table row);
  beside = λ other row differ. rows_stand setting has tables (Delete table key) h stands other row
      ∙ ap (λ b. holds setting.keys tables other row && not (b && is_row (named tables table key) row)) differ
      ∙ and_true (holds setting.keys tables other row);
  there = λ row e. named_there setting tables stands table key row e;
  room = λ row e h2. absurd cc;
}

-- ---- at the subscriber

-- rows that fit a table have the same key at the subscriber if, and only if, they have the same identity
pub record TellsIdentity (setting : Setting) (key_of : ℕ → List Datum → List Datum) : Type 0 where
  pub same_identity : (table : ℕ) (one other : List Datum) → fits setting table one ≡ true
      → fits setting table other ≡ true
      → key_of table one ≡ key_of table other → setting.identity table one ≡ setting.identity table other
  pub same_key : (table : ℕ) (one other : List Datum) → fits setting table one ≡ true → fits setting table other ≡ true
      → setting.identity table one ≡ setting.identity table other → key_of table one ≡ key_of table other
  pub blanked : (table : ℕ) (row : List Datum) → fits setting table row ≡ true
      → key_of table (setting.blanked table row) ≡ key_of table row

-- tables as accepted commands leave them
pub record IsRight (setting : Setting) (tables : Tables) : Type 0 where
  pub stands : Stands setting.keys tables
  pub fit : AllFit setting tables
  pub apart : Apart setting tables

swaps_rows : (setting : Setting) (key_of : ℕ → List Datum → List Datum) → TellsIdentity setting key_of
    → (before after : Tables) → AllFit setting after → Apart setting after
    → (table : ℕ) (old new : Option (List Datum)) → ChangesRows setting before after table old new
    → Swaps (key_of table) old new (holds setting.keys before table)
swaps_rows setting key_of tells before after fit apart table old new changes = record {
  there = changes.there;
  room = changes.room;
  apart = λ one other first second keys.
      let one_there : holds setting.keys after table one ≡ true = changes.here one ∙ first in
      let other_there : holds setting.keys after table other ≡ true = changes.here other ∙ second in
      apart table one other one_there other_there
      (tells.same_identity table one other (fit table one one_there) (fit table other other_there) keys);
}

-- what the subscriber of this number does with the rows that it sees removed and added in a table
pub record Steps (setting : Setting) (key_of : ℕ → List Datum → List Datum) (subscriber : ℕ) (copies : ℕ → Found)
    (after : Tables) (table : ℕ) (old new : Option (List Datum)) : Type 0 where
  pub here : IsDone (key_of table) (copies table) (passing (setting.passes subscriber table) old)
      (passing (setting.passes subscriber table) new) (in_shard setting subscriber after table)
  pub beside : (other : ℕ) → (table == other) ≡ false
      → FindsRows (key_of other) (copies other) (in_shard setting subscriber after other)

done_same : (key_of : List Datum → List Datum) (found : Found) (old new : Option (List Datum))
    (rows others : List Datum → Bool) → IsDone key_of found old new rows
    → ((row : List Datum) → rows row ≡ others row)
    → IsDone key_of found old new others
done_same key_of found None None rows others done same = finds_same key_of found rows others done same
done_same key_of found None (Some new) rows others done same = (done.0, finds_same key_of _ rows others done.1 same)
done_same key_of found (Some old) None rows others done same = (done.0, finds_same key_of _ rows others done.1 same)
done_same key_of found (Some old) (Some new) rows others done same =
    (done.0, done.1, finds_same key_of _ rows others done.2 same)

pub step_of : (setting : Setting) (key_of : ℕ → List Datum → List Datum) → TellsIdentity setting key_of
    → (subscriber : ℕ) (copies : ℕ → Found) (before after : Tables)
    → FindsShard setting key_of subscriber copies before → AllFit setting after → Apart setting after
    → (table : ℕ) (old new : Option (List Datum)) → ChangesRows setting before after table old new
    → Steps setting key_of subscriber copies after table old new
step_of setting key_of tells subscriber copies before after finds fit apart table old new changes = record {
  here = done_same (key_of table) (copies table) (passing (setting.passes subscriber table) old)
      (passing (setting.passes subscriber table) new)
      (λ row. swapped old new (holds setting.keys before table) row && setting.passes subscriber table row)
      (in_shard setting subscriber after table)
      (follows_swap (key_of table) (setting.passes subscriber table) (copies table) old new
      (holds setting.keys before table)
      (swaps_rows setting key_of tells before after fit apart table old new changes) (finds table))
      (λ row. ap (λ b. b && setting.passes subscriber table row) (sym (changes.here row)));
  beside = λ other differ. finds_same (key_of other) (copies other) (in_shard setting subscriber before other)
      (in_shard setting subscriber after other) (finds other)
      (λ row. ap (λ b. b && setting.passes subscriber other row) (sym (changes.beside other row differ)));
}

-- rows that are removed and added fit their table
pub old_fits : (setting : Setting) (before after : Tables) (table : ℕ) (old new : Option (List Datum))
    → ChangesRows setting before after table old new → AllFit setting before
    → (row : List Datum) → old ≡ Some row → fits setting table row ≡ true
old_fits setting before after table old new changes fit row h = fit table row (changes.there row h)

pub new_fits : (setting : Setting) (before after : Tables) (table : ℕ) (old new : Option (List Datum))
    → ChangesRows setting before after table old new → AllFit setting after
    → (row : List Datum) → new ≡ Some row → fits setting table row ≡ true
new_fits setting before after table old new changes fit row h =
    fit table row (changes.here row
    ∙ or_left (is_row new row) (holds setting.keys before table row && not (is_row old row)) (is_it new row h))

-- ---- TRUNCATE

-- no row of these tables is left
abbrev pub cleared : (ℕ → Found) → List ℕ → ℕ → Found
cleared copies numbers table key = if list_any (λ number. number == table) numbers then None else copies table key

pub finds_none : (key_of : List Datum → List Datum) (found : Found) (rows : List Datum → Bool)
    → ((key : List Datum) → found key ≡ None) → ((row : List Datum) → rows row ≡ false) → FindsRows key_of found rows
finds_none key_of found rows nothing nowhere = record {
  keyed = λ key row h. absurd (let none = nothing key in cc);
  each = λ row. ap (λ o. is_row o row) (nothing (key_of row)) ∙ sym (nowhere row);
}

-- copies with the same rows
pub finds_alike : (key_of : List Datum → List Datum) (found other : Found) (rows : List Datum → Bool)
    → FindsRows key_of found rows → ((key : List Datum) → other key ≡ found key) → FindsRows key_of other rows
finds_alike key_of found other rows finds same = record {
  keyed = λ key row h. finds.keyed key row (sym (same key) ∙ h);
  each = λ row. ap (λ o. is_row o row) (same (key_of row)) ∙ finds.each row;
}

flipped : (one other : ℕ) → nat_eq one other ≡ (other == one)
flipped one other = by_test (nat_eq one other)
    (λ same. same ∙ sym ((unsigned_Decides other one).1 (sym (eqb-true one other same))))
    (λ differ. by_test (other == one)
    (λ same. absurd (let back : nat_eq one other ≡ true =
    (unsigned_Decides one other).1 (sym (eqb-true other one same)) in cc))
    (λ beside. differ ∙ sym beside))

any_flipped : (number : ℕ) (numbers : List ℕ)
    → list_any (nat_eq number) numbers ≡ list_any (λ one. one == number) numbers
any_flipped number [] = refl
any_flipped number (first ∷ numbers) = ap (λ b. b || list_any (nat_eq number) numbers) (flipped number first)
    ∙ ap (λ b. (first == number) || b) (any_flipped number numbers)

or_itself : (p q : Bool) → (q ≡ true → p ≡ true) → p ≡ (p || q)
or_itself true q h = refl
or_itself false true h = h refl
or_itself false false h = refl

any_with : (table : ℕ) (numbers : List ℕ) (item : ℕ)
    → list_any (λ number. number == table) (with_item nat_eq numbers item)
    ≡ (list_any (λ number. number == table) numbers || (item == table))
any_with table numbers item = by_has (list_any (nat_eq item) numbers) refl
  where
    by_has : (has : Bool) → list_any (nat_eq item) numbers ≡ has
        → list_any (λ number. number == table) (if has then numbers else numbers ++ item ∷ [])
        ≡ (list_any (λ number. number == table) numbers || (item == table))
    by_has true h = or_itself (list_any (λ number. number == table) numbers) (item == table)
        (λ same. subst (λ t. list_any (λ number. number == t) numbers ≡ true) (eqb-true item table same)
        (sym (any_flipped item numbers) ∙ h))
    by_has false h = list_any-append (λ number. number == table) numbers (item ∷ [])
        ∙ ap (λ b. list_any (λ number. number == table) numbers || b) (or_false (item == table))

or_again : (p q s : Bool) → ((p || q) || s) ≡ (p || (q || s))
or_again true q s = refl
or_again false q s = refl

any_fold : (table : ℕ) (numbers more : List ℕ)
    → list_any (λ number. number == table) (fold (with_item nat_eq) numbers more)
    ≡ (list_any (λ number. number == table) numbers || list_any (λ number. number == table) more)
any_fold table numbers [] = sym (or_false (list_any (λ number. number == table) numbers))
any_fold table numbers (item ∷ more) =
    any_fold table (with_item nat_eq numbers item) more
    ∙ ap (λ b. b || list_any (λ number. number == table) more) (any_with table numbers item)
    ∙ or_again (list_any (λ number. number == table) numbers) (item == table)
    (list_any (λ number. number == table) more)

-- among the tables that the subscriber gets anything of
among_carried : (carries : ℕ → Bool) (numbers : List ℕ) (table : ℕ)
    → list_any (λ number. number == table) (filter carries (distinct nat_eq numbers))
    ≡ (carries table && list_any (λ number. number == table) numbers)
among_carried carries numbers table =
    any-filter_same (λ number. number == table) carries (carries table)
    (λ number h. ap carries (eqb-true number table h)) (distinct nat_eq numbers)
    ∙ ap (λ b. carries table && b) (any_fold table [] numbers)

pub truncate_clears : (setting : Setting) → HasPrimaryKeys setting.keys → Covered setting
    → (key_of : ℕ → List Datum → List Datum) (subscriber : ℕ) (copies : ℕ → Found) (tables : Tables)
    → Stands setting.keys tables
    → FindsShard setting key_of subscriber copies tables → (numbers : List ℕ)
    → fault_of setting tables (Truncate numbers) ≡ None
    → FindsShard setting key_of subscriber
    (cleared copies (filter (setting.carries subscriber) (distinct nat_eq numbers)))
    (applied setting tables (Truncate numbers))
truncate_clears setting has covered key_of subscriber copies tables stands finds numbers h table =
    by_both (setting.carries subscriber table) (list_any (λ number. number == table) numbers) refl refl
  where
    rows_after : (row : List Datum) → in_shard setting subscriber (applied setting tables (Truncate numbers)) table row
        ≡ ((holds setting.keys tables table row && not (list_any (λ number. number == table) numbers))
        && setting.passes subscriber table row)
    rows_after row = ap (λ b. b && setting.passes subscriber table row)
        (rows_stand setting has tables (Truncate numbers) h stands table row)

    never : (row : List Datum) → setting.carries subscriber table ≡ false → setting.passes subscriber table row ≡ false
    never row e = by_test (setting.passes subscriber table row)
        (λ passes. absurd (let carried = covered.carried subscriber table row passes in cc)) (λ stays. stays)

    untouched : list_any (λ number. number == table) (filter (setting.carries subscriber) (distinct nat_eq numbers))
        ≡ false
        → ((row : List Datum)
        → in_shard setting subscriber tables table row
        ≡ in_shard setting subscriber (applied setting tables (Truncate numbers)) table row)
        → FindsRows (key_of table)
        (cleared copies (filter (setting.carries subscriber) (distinct nat_eq numbers)) table)
        (in_shard setting subscriber (applied setting tables (Truncate numbers)) table)
    untouched e same = finds_alike (key_of table) (copies table)
        (cleared copies (filter (setting.carries subscriber) (distinct nat_eq numbers)) table)
        (in_shard setting subscriber (applied setting tables (Truncate numbers)) table)
        (finds_same (key_of table) (copies table) (in_shard setting subscriber tables table)
        (in_shard setting subscriber (applied setting tables (Truncate numbers)) table) (finds table) same)
        (λ key. rw e refl)

    by_both : (carried named : Bool) → setting.carries subscriber table ≡ carried
        → list_any (λ number. number == table) numbers ≡ named
        → FindsRows (key_of table)
        (cleared copies (filter (setting.carries subscriber) (distinct nat_eq numbers)) table)
        (in_shard setting subscriber (applied setting tables (Truncate numbers)) table)
    by_both true true e f =
        finds_none (key_of table)
        (cleared copies (filter (setting.carries subscriber) (distinct nat_eq numbers)) table)
        (in_shard setting subscriber (applied setting tables (Truncate numbers)) table)
        (λ key. let cleared_too : list_any (λ number. number == table)
        (filter (setting.carries subscriber) (distinct nat_eq numbers)) ≡ true =
        among_carried (setting.carries subscriber) numbers table ∙ rw (e, f) refl in rw cleared_too refl)
        (λ row. rows_after row
        ∙ ap (λ b. (holds setting.keys tables table row && not b) && setting.passes subscriber table row) f
        ∙ ap (λ b. b && setting.passes subscriber table row) (and_false (holds setting.keys tables table row)))
    by_both true false e f = untouched (among_carried (setting.carries subscriber) numbers table ∙ rw (e, f) refl)
        (λ row. sym (rows_after row
        ∙ ap (λ b. (holds setting.keys tables table row && not b) && setting.passes subscriber table row) f
        ∙ ap (λ b. b && setting.passes subscriber table row) (and_true (holds setting.keys tables table row))))
    by_both false named e f = untouched (among_carried (setting.carries subscriber) numbers table ∙ rw e refl)
        (λ row. ap (λ b. holds setting.keys tables table row && b) (never row e)
        ∙ and_false (holds setting.keys tables table row)
        ∙ sym (rows_after row
        ∙ ap (λ b. (holds setting.keys tables table row && not (list_any (λ number. number == table) numbers)) && b)
        (never row e)
        ∙ and_false (holds setting.keys tables table row && not (list_any (λ number. number == table) numbers))))

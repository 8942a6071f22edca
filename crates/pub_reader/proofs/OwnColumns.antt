-- No two columns of a table have the same name. Its key and its indexes have columns of the table, none twice, and
-- those of the key are NOT NULL.
use Rattle.std.proofs.Common.{◌≡◌, ℕ, zero, suc, ◌+◌, ◌<◌, Bool, true, false, not, ◌||◌, List, [], ◌∷◌, ◌++◌, length, map, refl, sym, ap, subst, ◌∙◌, arith}
use Rattle.std.specs.Prelude.{nat_eq, nat_le, ◌==◌, if◌then◌else◌, Option, Some, Ok, Err, slice_get}
use Rattle.std.specs.Cmp.{nat_eq_equiv}
use Rattle.std.specs.List.{IsDistinct, list_any}
use Rattle.std.specs.Option.{is_some}
use Rattle.std.specs.Str.{bytes_eq}
use Rattle.std.proofs.lemmas.Bool.Decides.{nat_tests}
use Rattle.std.proofs.lemmas.List.{length_push, map-append}
use Rattle.std.proofs.lemmas.List.Elements.{All-nil, All-push}
use Rattle.std.proofs.lemmas.Map.Keys.{IsDistinct-push}
use Rattle.filter_tree.specs.declared.table.Column.{Column}
use Rattle.filter_tree.proofs.Tests.{by_test, both_true}
use Rattle.sql_reader.specs.declared.column.FoundColumn.{FoundColumn}
use Rattle.sql_reader.specs.declared.item.Item.{Item}
use Rattle.sql_reader.specs.declared.item.Item.TheVariants as i
use Rattle.sql_reader.specs.declared.name.PlacedName.{PlacedName}
use Rattle.sql_reader.specs.declared.word.Keyword.TheVariants as k
use Rattle.sql_reader.specs.Columns.{Parts, no_parts, new_column, required, column_type, constraints, has_key, column_element, once_in_key, with_key_column, key_column, key_columns, first_key, key_element, element_by, element, elements}
use Rattle.sql_reader.specs.Expressions.{found_from, find_column, known_column}
use Rattle.sql_reader.specs.Items.{Items}
use Rattle.sql_reader.specs.Names.{name}
use Rattle.sql_reader.specs.Reading.{Fault, Outcome, with_rest, expect, item_ahead, refuse}
use Rattle.sql_reader.specs.Repetitions.{link}
use Rattle.sql_reader.proofs.Keeping.{Gives, then-gives, any-gives, chosen_rule-gives, repeat-gives, link-gives}
use Rattle.sql_reader.proofs.NamedParts.{known_column-gives}
use Rattle.sql_reader.proofs.Widths.{AreColumns as Exist, IsNarrow, elements-gives}
use Rattle.pub_catalog.specs.IndexIdentities.{takes_no_null, take_no_null}
use Rattle.pub_reader.specs.Indexes.{method, once_in_index, index_column, indexed_columns, index_tail, index_body}
use Rattle.pub_reader.specs.Tables.{keyed, table_tail, table_body}
use Rattle.pub_reader.specs.WellFormed.{AreColumns}
use Rattle.pub_reader.proofs.OwnNames.{same_bytes, turned_any}

-- ---- checks

-- what is accepted has not the first fault
accepted : (P : Type 0) (is_taken is_full : Bool) (one other : Fault) (ts : Items) → (is_taken ≡ false → P)
    → Gives (λ (u : Unit {0}). P)
    (with_rest (if is_taken then Err one else (if is_full then Err other else Ok tt)) ts)
accepted P true is_full one other ts h = tt
accepted P false true one other ts h = tt
accepted P false false one other ts h = h refl

untaken : (is_taken : Bool) (fault : Fault) (ts : Items)
    → Gives (λ (u : Unit {0}). is_taken ≡ false) (with_rest (if is_taken then Err fault else Ok tt) ts)
untaken true fault ts = tt
untaken false fault ts = refl

both-gives : {A : Type 0} (P Q : A → Type 0) (read : Outcome A) → Gives P read → Gives Q read
    → Gives (λ a. P a × Q a) read
both-gives P Q (Ok read) p q = (p, q)
both-gives P Q (Err fault) p q = tt

-- ---- names of columns

abbrev names_of : List Column → List (List ℕ)
names_of columns = map (λ (column : Column). column.name) columns

not_found : (number : ℕ) (text : List ℕ) (columns : List Column) → is_some (found_from number text columns) ≡ false
    → list_any (bytes_eq text) (names_of columns) ≡ false
not_found number text [] h = refl
not_found number text (column ∷ columns) h =
    by_test (bytes_eq text column.name)
    (λ e. let bad : true ≡ false = rw e at h in absurd cc)
    (λ e. let later : is_some (found_from (number + 1) text columns) ≡ false = rw e at h in
    rw e (not_found (number + 1) text columns later))

new_column-free : (parts : Parts) (called : PlacedName) (ts : Items)
    → Gives (λ (u : Unit {0}). list_any (bytes_eq called.text) (names_of parts.columns) ≡ false)
    (with_rest (new_column parts called) ts)
unfolding new_column find_column
new_column-free parts called ts =
    accepted (list_any (bytes_eq called.text) (names_of parts.columns) ≡ false)
    (is_some (found_from 0 called.text parts.columns)) (nat_le 100 (length parts.columns)) _ _ ts
    (not_found 0 called.text parts.columns)

named_push : (columns : List Column) (column : Column) → IsDistinct bytes_eq (names_of columns)
    → list_any (bytes_eq column.name) (names_of columns) ≡ false
    → IsDistinct bytes_eq (names_of (columns ++ column ∷ []))
named_push columns column own free =
    subst (IsDistinct bytes_eq) (sym (map-append (λ (c : Column). c.name) columns (column ∷ [])))
    (IsDistinct-push same_bytes (names_of columns) column.name own free)

names-required : (columns : List Column) (number : ℕ) → names_of (required columns number) ≡ names_of columns
names-required [] number = refl
names-required (column ∷ columns) zero = refl
names-required (column ∷ columns) (suc number) = ap (λ names. column.name ∷ names) (names-required columns number)

-- ---- columns that are NOT NULL

abbrev IsRequired : List Column → ℕ → Type 0
IsRequired columns number = takes_no_null (slice_get columns number) ≡ true

all_required : (columns others : List Column) → ((number : ℕ) → IsRequired columns number → IsRequired others number)
    → (numbers : List ℕ) → take_no_null columns numbers ≡ true → take_no_null others numbers ≡ true
all_required columns others stays [] h = refl
all_required columns others stays (number ∷ numbers) h =
    let both = both_true (takes_no_null (slice_get columns number)) (take_no_null columns numbers) h in
    rw (stays number both.0) (all_required columns others stays numbers both.1)

required_push : (columns : List Column) (numbers : List ℕ) (number : ℕ) → take_no_null columns numbers ≡ true
    → IsRequired columns number → take_no_null columns (numbers ++ number ∷ []) ≡ true
required_push columns [] number h last = rw last refl
required_push columns (first ∷ numbers) number h last =
    let both = both_true (takes_no_null (slice_get columns first)) (take_no_null columns numbers) h in
    rw both.0 (required_push columns numbers number both.1 last)

still_required : (columns : List Column) (column : Column) (number : ℕ) → IsRequired columns number
    → IsRequired (columns ++ column ∷ []) number
still_required [] column number h = absurd cc
still_required (first ∷ columns) column zero h = h
still_required (first ∷ columns) column (suc number) h = still_required columns column number h

last_required : (columns : List Column) (column : Column) → column.not_null ≡ true
    → IsRequired (columns ++ column ∷ []) (length columns)
last_required [] column h = h
last_required (first ∷ columns) column h = last_required columns column h

required_stays : (columns : List Column) (changed number : ℕ) → IsRequired columns number
    → IsRequired (required columns changed) number
required_stays [] changed number h = h
required_stays (column ∷ columns) zero zero h = refl
required_stays (column ∷ columns) zero (suc number) h = h
required_stays (column ∷ columns) (suc changed) zero h = h
required_stays (column ∷ columns) (suc changed) (suc number) h = required_stays columns changed number h

required_is : (columns : List Column) (number : ℕ) → number < length columns
    → IsRequired (required columns number) number
required_is [] number within = absurd (omega arith)
required_is (column ∷ columns) zero within = refl
required_is (column ∷ columns) (suc number) within = required_is columns number (omega arith)

-- ---- elements

-- the key, as far as it was read, has columns that are NOT NULL, none twice
abbrev IsKey : List Column → List ℕ → Type 0
IsKey columns key = IsDistinct nat_eq key × (take_no_null columns key ≡ true)

abbrev AreOwn : Parts → Type 0
AreOwn parts = IsDistinct bytes_eq (names_of parts.columns) × IsKey parts.columns parts.key

chosen_key : (is_key : Bool) (columns : List Column) (column : Column) (key : List ℕ)
    → (is_key ≡ true → column.not_null ≡ true) → IsKey columns key
    → IsKey (columns ++ column ∷ []) (if is_key then length columns ∷ [] else key)
unfolding IsDistinct
chosen_key true columns column key is h = ((tt, tt), rw (last_required columns column (is refl)) refl)
chosen_key false columns column key is h =
    (h.0, all_required columns (columns ++ column ∷ []) (still_required columns column) key h.1)

key_not_null : (not_null key : Bool) → key ≡ true → (not_null || key) ≡ true
key_not_null true key is = refl
key_not_null false key is = is

column_element-own : (parts : Parts) (ts : Items) → AreOwn parts → Gives AreOwn (column_element parts ts)
unfolding column_element
column_element-own parts ts own =
    any-gives AreOwn (name ts) _ (λ called ts2.
    then-gives (λ (u : Unit {0}). list_any (bytes_eq called.text) (names_of parts.columns) ≡ false) AreOwn
    (with_rest (new_column parts called) ts2) _ (new_column-free parts called ts2) (λ n ts3 free.
    any-gives AreOwn (column_type ts3) _ (λ kind ts4.
    any-gives AreOwn (constraints (has_key parts) ts4) _ (λ given ts5.
    let column : Column = record { name = called.text; kind = kind; not_null = given.not_null || given.key } in (
      named_push parts.columns column own.0 free,
      chosen_key given.key parts.columns column parts.key (key_not_null given.not_null given.key) own.1,
    )))))

once_in_key-free : (parts : Parts) (called : PlacedName) (column : FoundColumn) (ts : Items)
    → Gives (λ (u : Unit {0}). list_any (λ n. n == column.number) parts.key ≡ false)
    (with_rest (once_in_key parts called column) ts)
unfolding once_in_key
once_in_key-free parts called column ts = untaken (list_any (λ n. n == column.number) parts.key) _ ts

once_push : (numbers : List ℕ) (number : ℕ) → IsDistinct nat_eq numbers
    → list_any (λ n. n == number) numbers ≡ false → IsDistinct nat_eq (numbers ++ number ∷ [])
once_push numbers number h free = IsDistinct-push nat_eq_equiv numbers number h (turned_any number numbers ∙ free)

with_key_column-own : (parts : Parts) (column : FoundColumn) → AreOwn parts → column.number < length parts.columns
    → list_any (λ n. n == column.number) parts.key ≡ false → AreOwn (with_key_column parts column)
with_key_column-own parts column own within free =
    let columns = required parts.columns column.number in (
      subst (IsDistinct bytes_eq) (sym (names-required parts.columns column.number)) own.0,
      (
        once_push parts.key column.number own.1.0 free,
        required_push columns parts.key column.number
            (all_required parts.columns columns (required_stays parts.columns column.number) parts.key own.1.1)
            (required_is parts.columns column.number within),
      ),
    )

key_column-own : (parts : Parts) (ts : Items) → AreOwn parts → Gives AreOwn (key_column parts ts)
unfolding key_column
key_column-own parts ts own =
    any-gives AreOwn (name ts) _ (λ called ts2.
    then-gives (λ (column : FoundColumn). column.number < length parts.columns) AreOwn
    (with_rest (known_column parts.columns called) ts2) _ (known_column-gives parts.columns called ts2)
    (λ column ts3 within.
    then-gives (λ (u : Unit {0}). list_any (λ n. n == column.number) parts.key ≡ false) AreOwn
    (with_rest (once_in_key parts called column) ts3) _ (once_in_key-free parts called column ts3)
    (λ n ts4 free. with_key_column-own parts column own within free)))

key_columns-own : (parts : Parts) (ts : Items) → AreOwn parts → Gives AreOwn (key_columns parts ts)
unfolding key_columns
key_columns-own parts ts own =
    then-gives AreOwn AreOwn (key_column parts ts) _ (key_column-own parts ts own) (λ keyed ts2 h.
    repeat-gives AreOwn (link i.Comma key_column) (link-gives AreOwn i.Comma key_column key_column-own) keyed ts2 h)

first_key-own : (parts : Parts) (ts : Items) → AreOwn parts → Gives AreOwn (first_key parts ts)
unfolding first_key
first_key-own parts ts own =
    any-gives AreOwn (expect (i.Keyword k.Primary) ts) _ (λ a ts2.
    any-gives AreOwn (expect (i.Keyword k.Key) ts2) _ (λ b ts3.
    any-gives AreOwn (expect i.Open ts3) _ (λ c ts4.
    then-gives AreOwn AreOwn (key_columns parts ts4) _ (key_columns-own parts ts4 own) (λ keyed ts5 h.
    any-gives AreOwn (expect i.Close ts5) _ (λ d ts6. h)))))

key_element-own : (parts : Parts) (ts : Items) → AreOwn parts → Gives AreOwn (key_element parts ts)
unfolding key_element
key_element-own parts ts own =
    chosen_rule-gives AreOwn (has_key parts) refuse (first_key parts) ts tt (first_key-own parts ts own)

element_by-own : (item : Option Item) (parts : Parts) (ts : Items) → AreOwn parts
    → Gives AreOwn (element_by item parts ts)
element_by-own (Some (i.Keyword k.Primary)) parts ts own = key_element-own parts ts own
element_by-own (Some (i.Keyword k.Check)) parts ts own = tt
element_by-own (Some (i.Keyword k.Unique)) parts ts own = tt
element_by-own (Some (i.Keyword k.Foreign)) parts ts own = tt
element_by-own (Some (i.Keyword k.Constraint)) parts ts own = tt
element_by-own _ parts ts own = column_element-own parts ts own

element-own : (parts : Parts) (ts : Items) → AreOwn parts → Gives AreOwn (element parts ts)
unfolding element
element-own parts ts own = element_by-own (item_ahead ts) parts ts own

no_parts-own : AreOwn no_parts
unfolding IsDistinct
no_parts-own = (tt, (tt, refl))

elements-own : (ts : Items) → Gives AreOwn (elements ts)
unfolding elements
elements-own ts =
    then-gives AreOwn AreOwn (element no_parts ts) _ (element-own no_parts ts no_parts-own) (λ parts ts2 h.
    repeat-gives AreOwn (link i.Comma element) (link-gives AreOwn i.Comma element element-own) parts ts2 h)

-- ---- the columns of a table, and its key

pub record HasOwn (parts : Parts) : Type 0 where
  pub named : IsDistinct bytes_eq (names_of parts.columns)
  pub keyed : AreColumns parts.columns parts.key
  pub not_null : take_no_null parts.columns parts.key ≡ true

has_some : (n : ℕ) → not (n == 0) ≡ true → 0 < n
has_some n h = grind (arith, nat_tests)

keyed-some : (called : PlacedName) (parts : Parts) (ts : Items)
    → Gives (λ (u : Unit {0}). 0 < length parts.key) (with_rest (keyed called parts) ts)
unfolding keyed
keyed-some called parts ts = chosen (not (length parts.key == 0)) _ (has_some (length parts.key))
  where
    chosen : (is : Bool) (fault : Fault) → (is ≡ true → 0 < length parts.key)
        → Gives (λ (u : Unit {0}). 0 < length parts.key) (with_rest (if is then Ok tt else Err fault) ts)
    chosen true fault h = h refl
    chosen false fault h = tt

pub table_body-own : (called : PlacedName) (ts : Items) → Gives HasOwn (table_body called ts)
unfolding table_body
table_body-own called ts =
    any-gives HasOwn (expect i.Open ts) _ (λ a ts2.
    then-gives (λ parts. IsNarrow parts × AreOwn parts) HasOwn (elements ts2) _
    (both-gives IsNarrow AreOwn (elements ts2) (elements-gives ts2) (elements-own ts2)) (λ parts ts3 h.
    any-gives HasOwn (expect i.Close ts3) _ (λ b ts4.
    then-gives (λ (u : Unit {0}). 0 < length parts.key) HasOwn (with_rest (keyed called parts) ts4) _
    (keyed-some called parts ts4) (λ n ts5 some.
    any-gives HasOwn (table_tail ts5) _ (λ m ts6. record {
      named = h.1.0;
      keyed = record { some = some; once = h.1.1.0; known = h.0.1 };
      not_null = h.1.1.1;
    })))))

-- ---- the columns of an index

abbrev AreFound : List Column → List ℕ → Type 0
AreFound columns numbers = IsDistinct nat_eq numbers × Exist columns numbers

none_found : (columns : List Column) → AreFound columns []
unfolding IsDistinct
none_found columns = (tt, All-nil (λ number. number < length columns))

once_in_index-free : (numbers : List ℕ) (called : PlacedName) (column : FoundColumn) (ts : Items)
    → Gives (λ (u : Unit {0}). list_any (λ n. n == column.number) numbers ≡ false)
    (with_rest (once_in_index numbers called column) ts)
unfolding once_in_index
once_in_index-free numbers called column ts = untaken (list_any (λ n. n == column.number) numbers) _ ts

index_column-own : (columns : List Column) (numbers : List ℕ) (ts : Items) → AreFound columns numbers
    → Gives (AreColumns columns) (index_column columns numbers ts)
unfolding index_column
index_column-own columns numbers ts h =
    any-gives (AreColumns columns) (name ts) _ (λ called ts2.
    then-gives (λ (column : FoundColumn). column.number < length columns) (AreColumns columns)
    (with_rest (known_column columns called) ts2) _ (known_column-gives columns called ts2) (λ column ts3 within.
    then-gives (λ (u : Unit {0}). list_any (λ n. n == column.number) numbers ≡ false) (AreColumns columns)
    (with_rest (once_in_index numbers called column) ts3) _ (once_in_index-free numbers called column ts3)
    (λ n ts4 free. record {
      some = omega (arith, length_push numbers column.number);
      once = once_push numbers column.number h.0 free;
      known = All-push (λ number. number < length columns) numbers column.number h.1 within;
    })))

indexed_columns-own : (columns : List Column) (ts : Items) → Gives (AreColumns columns) (indexed_columns columns ts)
unfolding indexed_columns
indexed_columns-own columns ts =
    then-gives (AreColumns columns) (AreColumns columns) (index_column columns [] ts) _
    (index_column-own columns [] ts (none_found columns)) (λ numbers ts2 h.
    repeat-gives (AreColumns columns) (link i.Comma (index_column columns))
    (link-gives (AreColumns columns) i.Comma (index_column columns)
    (λ others ts3 g. index_column-own columns others ts3 (g.once, g.known))) numbers ts2 h)

pub index_body-own : (columns : List Column) (ts : Items) → Gives (AreColumns columns) (index_body columns ts)
unfolding index_body
index_body-own columns ts =
    any-gives (AreColumns columns) (method ts) _ (λ u ts2.
    any-gives (AreColumns columns) (expect i.Open ts2) _ (λ a ts3.
    then-gives (AreColumns columns) (AreColumns columns) (indexed_columns columns ts3) _
    (indexed_columns-own columns ts3) (λ numbers ts4 h.
    any-gives (AreColumns columns) (expect i.Close ts4) _ (λ b ts5.
    any-gives (AreColumns columns) (index_tail ts5) _ (λ v ts6. h)))))

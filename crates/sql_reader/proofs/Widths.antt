-- A table has at most 100 columns, and the columns of its key are among them.
use Rattle.std.proofs.Common.{◌≡◌, ℕ, zero, suc, ◌<◌, ◌≤◌, Bool, true, false, List, [], ◌∷◌, ◌++◌, All, length, refl, sym, ap, subst, arith}
use Rattle.std.specs.Prelude.{nat_le, ◌||◌, if◌then◌else◌, Option, Some, Ok, Err}
use Rattle.std.specs.Option.{is_some}
use Rattle.std.proofs.lemmas.Bool.Decides.{nat_tests}
use Rattle.std.proofs.lemmas.List.{length_push}
use Rattle.std.proofs.lemmas.List.Elements.{All-nil, All-cons, All-push}
use Rattle.filter_tree.specs.declared.table.ColType.{ColType}
use Rattle.filter_tree.specs.declared.table.Column.{Column}
use Rattle.sql_reader.specs.declared.word.Keyword.TheVariants as k
use Rattle.sql_reader.specs.declared.item.Item.{Item}
use Rattle.sql_reader.specs.declared.item.Item.TheVariants as i
use Rattle.sql_reader.specs.declared.name.PlacedName.{PlacedName}
use Rattle.sql_reader.specs.declared.column.FoundColumn.{FoundColumn}
use Rattle.sql_reader.specs.declared.column_rule.Constraints.{Constraints}
use Rattle.sql_reader.specs.Columns.{Parts, no_parts, new_column, required, column_type, constraints, has_key, with_column, column_element, once_in_key, with_key_column, key_column, key_columns, first_key, key_element, element_by, element, elements}
use Rattle.sql_reader.specs.Expressions.{find_column, known_column}
use Rattle.sql_reader.specs.Items.{Items}
use Rattle.sql_reader.specs.Names.{name}
use Rattle.sql_reader.specs.Reading.{Fault, with_rest, expect, item_ahead, refuse}
use Rattle.sql_reader.specs.Repetitions.{link}
use Rattle.sql_reader.proofs.NamedParts.{known_column-gives}
use Rattle.sql_reader.proofs.Keeping.{Gives, then-gives, any-gives, chosen_rule-gives, repeat-gives, link-gives}

-- the numbers are those of columns that exist
abbrev pub AreColumns : List Column → List ℕ → Type 0
AreColumns columns numbers = All (λ number. number < length columns) numbers

abbrev pub IsNarrow : Parts → Type 0
IsNarrow parts = (length parts.columns ≤ 100) × AreColumns parts.columns parts.key

-- if something new is accepted only below a limit, there is room for it
pub room-gives : (is_taken is_full : Bool) (n most : ℕ) (one other : Fault) (ts : Items)
    → (is_full ≡ false → n < most) →
    Gives (λ (u : Unit {0}). n < most)
    (with_rest (if is_taken then Err one else (if is_full then Err other else Ok tt)) ts)
room-gives true is_full n most one other ts h = tt
room-gives false true n most one other ts h = tt
room-gives false false n most one other ts h = h refl

pub below : (most n : ℕ) → nat_le most n ≡ false → n < most
below most n e = grind (arith, nat_tests)

new_column-gives : (parts : Parts) (called : PlacedName) (ts : Items)
    → Gives (λ (u : Unit {0}). length parts.columns < 100) (with_rest (new_column parts called) ts)
unfolding new_column
new_column-gives parts called ts =
    room-gives (is_some (find_column called.text parts.columns)) (nat_le 100 (length parts.columns))
    (length parts.columns) 100 _ _ ts (below 100 (length parts.columns))

chosen_key : (is : Bool) (columns : List Column) (column : Column) (key : List ℕ) → AreColumns columns key
    → AreColumns (columns ++ column ∷ []) (if is then length columns ∷ [] else key)
chosen_key true columns column key h =
    All-cons (λ number. number < length (columns ++ column ∷ [])) (length columns) []
    (omega (arith, length_push columns column)) (All-nil (λ number. number < length (columns ++ column ∷ [])))
chosen_key false columns column key h = λ n d low. let before = h n d low in
    omega (arith, length_push columns column, before)

pushed-narrow : (parts : Parts) (called : PlacedName) (kind : ColType) (given : Constraints)
    → length parts.columns < 100 → IsNarrow parts
    → IsNarrow (with_column parts called kind given)
pushed-narrow parts called kind given room narrow =
    let column : Column = record { name = called.text; kind = kind; not_null = given.not_null || given.key } in
    (omega (arith, length_push parts.columns column), chosen_key given.key parts.columns column parts.key narrow.1)

column_element-gives : (parts : Parts) (ts : Items) → IsNarrow parts → Gives IsNarrow (column_element parts ts)
unfolding column_element
column_element-gives parts ts narrow =
    any-gives IsNarrow (name ts) _ (λ called ts2.
    then-gives (λ (u : Unit {0}). length parts.columns < 100) IsNarrow (with_rest (new_column parts called) ts2) _
    (new_column-gives parts called ts2) (λ n ts3 room.
    any-gives IsNarrow (column_type ts3) _ (λ kind ts4.
    any-gives IsNarrow (constraints (has_key parts) ts4) _
    (λ given ts5. pushed-narrow parts called kind given room narrow))))

length-required : (columns : List Column) (number : ℕ) → length (required columns number) ≡ length columns
length-required [] number = refl
length-required (column ∷ columns) zero = refl
length-required (column ∷ columns) (suc number) = ap suc (length-required columns number)

required-narrow : (parts : Parts) (column : FoundColumn) → IsNarrow parts → column.number < length parts.columns
    → IsNarrow (with_key_column parts column)
required-narrow parts column narrow within =
    let same = length-required parts.columns column.number in (
      omega (arith, same, narrow.0),
      subst (λ count. All (λ number. number < count) (parts.key ++ column.number ∷ [])) (sym same)
          (All-push (λ number. number < length parts.columns) parts.key column.number narrow.1 within),
    )

key_column-gives : (parts : Parts) (ts : Items) → IsNarrow parts → Gives IsNarrow (key_column parts ts)
unfolding key_column
key_column-gives parts ts narrow =
    any-gives IsNarrow (name ts) _ (λ called ts2.
    then-gives (λ (column : FoundColumn). column.number < length parts.columns) IsNarrow
    (with_rest (known_column parts.columns called) ts2) _
    (known_column-gives parts.columns called ts2) (λ column ts3 within.
    any-gives IsNarrow (with_rest (once_in_key parts called column) ts3) _
    (λ n ts4. required-narrow parts column narrow within)))

key_columns-gives : (parts : Parts) (ts : Items) → IsNarrow parts → Gives IsNarrow (key_columns parts ts)
unfolding key_columns
key_columns-gives parts ts narrow =
    then-gives IsNarrow IsNarrow (key_column parts ts) _ (key_column-gives parts ts narrow) (λ keyed ts2 h.
    repeat-gives IsNarrow (link i.Comma key_column) (link-gives IsNarrow i.Comma key_column key_column-gives) keyed
    ts2 h)

first_key-gives : (parts : Parts) (ts : Items) → IsNarrow parts → Gives IsNarrow (first_key parts ts)
unfolding first_key
first_key-gives parts ts narrow =
    any-gives IsNarrow (expect (i.Keyword k.Primary) ts) _ (λ a ts2.
    any-gives IsNarrow (expect (i.Keyword k.Key) ts2) _ (λ b ts3.
    any-gives IsNarrow (expect i.Open ts3) _ (λ c ts4.
    then-gives IsNarrow IsNarrow (key_columns parts ts4) _ (key_columns-gives parts ts4 narrow) (λ keyed ts5 h.
    any-gives IsNarrow (expect i.Close ts5) _ (λ d ts6. h)))))

key_element-gives : (parts : Parts) (ts : Items) → IsNarrow parts → Gives IsNarrow (key_element parts ts)
unfolding key_element
key_element-gives parts ts narrow =
    chosen_rule-gives IsNarrow (has_key parts) refuse (first_key parts) ts tt (first_key-gives parts ts narrow)

element_by-gives : (item : Option Item) (parts : Parts) (ts : Items) → IsNarrow parts
    → Gives IsNarrow (element_by item parts ts)
element_by-gives (Some (i.Keyword k.Primary)) parts ts narrow = key_element-gives parts ts narrow
element_by-gives (Some (i.Keyword k.Check)) parts ts narrow = tt
element_by-gives (Some (i.Keyword k.Unique)) parts ts narrow = tt
element_by-gives (Some (i.Keyword k.Foreign)) parts ts narrow = tt
element_by-gives (Some (i.Keyword k.Constraint)) parts ts narrow = tt
element_by-gives _ parts ts narrow = column_element-gives parts ts narrow

element-gives : (parts : Parts) (ts : Items) → IsNarrow parts → Gives IsNarrow (element parts ts)
unfolding element
element-gives parts ts narrow = element_by-gives (item_ahead ts) parts ts narrow

pub elements-gives : (ts : Items) → Gives IsNarrow (elements ts)
unfolding elements
elements-gives ts =
    then-gives IsNarrow IsNarrow (element no_parts ts) _
    (element-gives no_parts ts (omega arith, All-nil (λ (number : ℕ). number < 0))) (λ parts ts2 h.
    repeat-gives IsNarrow (link i.Comma element) (link-gives IsNarrow i.Comma element element-gives) parts ts2 h)

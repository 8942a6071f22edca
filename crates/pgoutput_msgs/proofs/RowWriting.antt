-- The values of a row as they are in a message, and the room that they need.
use Rattle.std.proofs.Common.{◌≡◌, ℕ, ◌+◌, ◌<◌, ◌≤◌, ◌∷◌, ◌++◌, ℤ, pos, negsuc, ◌≤ℤ◌, List, length, get_or, take, map, sym, ap, subst, ◌∙◌, arith, lit<}
use Rattle.std.specs.Fmt.{signed_decimal}
use Rattle.std.specs.List.{flat_map}
use Rattle.std.specs.Prelude.{All}
use Rattle.std.proofs.lemmas.List.{get_or-map, length-map, take_more, take_all}
use Rattle.std.proofs.lemmas.List.Elements.{All-nil, All-push, All-map}
use Rattle.std.proofs.lemmas.List.Folds.{flat_map-map}
use Rattle.filter_tree.specs.Datum.{Datum}
use Rattle.filter_tree.specs.Values.{datum_view}
use Rattle.filter_tree.specs.declared.value.Value.{Value}
use Rattle.pgoutput_msgs.specs.Ranges.{AreTexts, IsCellText, IsCellWithinRange}
use Rattle.pgoutput_msgs.specs.Spelling.{int8, int16, int32, cell_spelling, tuple_spelling, spelling_of}
use Rattle.pgoutput_msgs.specs.declared.message.Msg.TheVariants.{Truncate}
use Rattle.pgoutput_msgs.specs.Telling.{oid_of, oid_spelling}
use Rattle.pgoutput_msgs.specs.ValueText.{cell_of, cells_of, value_spelling}
use Rattle.pgoutput_msgs.proofs.RowLemmas.{few_digits}

-- the values of a tuple are spelled one after the other
pub spelled_values : {A : _} (values : List (Value A))
    → flat_map cell_spelling (cells_of (map datum_view values)) ≡ flat_map value_spelling values
spelled_values values = flat_map-map cell_spelling cell_of (map datum_view values)
    ∙ flat_map-map (λ (datum : Datum). cell_spelling (cell_of datum)) datum_view values

-- and so is a tuple, after the number of its values
pub spelled_row : {A : _} (values : List (Value A))
    → tuple_spelling (cells_of (map datum_view values)) ≡ int16 (length values) ++ flat_map value_spelling values
spelled_row values =
    let count = length-map (map datum_view values) cell_of ∙ length-map values datum_view in
    ap (λ (n : ℕ). int16 n ++ flat_map cell_spelling (cells_of (map datum_view values))) count
    ∙ ap (λ (bytes : List ℕ). int16 (length values) ++ bytes) (spelled_values values)

-- if there is room for all values in the layout, there is for one
pub value_fits : {A : _} (values : List (Value A)) (i : ℕ) (value : Value A) → value ≡ get_or values i value
    → i < length values → All IsCellWithinRange (cells_of (map datum_view values))
    → IsCellWithinRange (cell_of (datum_view value))
value_fits values i value is within fits =
    let row = map datum_view values in
    let long : i < length row = omega (arith, length-map values datum_view, within) in
    let one : get_or (cells_of row) i (cell_of (datum_view value)) ≡ cell_of (datum_view value) =
    get_or-map cell_of row i (datum_view value) (cell_of (datum_view value)) long
    ∙ ap cell_of (get_or-map datum_view values i value (datum_view value) within ∙ ap datum_view (sym is)) in
    subst IsCellWithinRange one (fits i (cell_of (datum_view value)) (omega (arith, length-map row cell_of, long)))

-- a number of 64 bits has a sign and 20 digits at most
pub room_of_number : (number : ℤ) → negsuc 9223372036854775807 ≤ℤ number → number ≤ℤ pos 9223372036854775807
    → 5 + length (signed_decimal number) ≤ 26
room_of_number number low high =
    omega (arith, few_digits number 9223372036854775807 9223372036854775807 (lit< tt) (lit< tt) low high)

-- ---- texts

abbrev is_text_value : {A : _} → Value A → Type 0
is_text_value value = IsCellText (cell_of (datum_view value))

-- the texts of the first values are UTF-8
abbrev pub AreTextsBelow : {A : _} → List (Value A) → ℕ → Type 0
AreTextsBelow values count = All is_text_value (take count values)

pub no_texts : {A : _} (values : List (Value A)) → AreTextsBelow values 0
no_texts values = All-nil is_text_value

pub texts_on : {A : _} (values : List (Value A)) (i : ℕ) (value : Value A) → value ≡ get_or values i value
    → i < length values → IsCellText (cell_of (datum_view value))
    → AreTextsBelow values i → AreTextsBelow values (i + 1)
texts_on values i value is within text below =
    subst (All is_text_value) (sym (take_more values i value within))
    (All-push is_text_value (take i values) (get_or values i value) below (subst is_text_value is text))

pub all_texts : {A : _} (values : List (Value A)) (count : ℕ) → length values ≤ count → AreTextsBelow values count
    → AreTexts (cells_of (map datum_view values))
all_texts values count over below =
    All-map IsCellText cell_of (map datum_view values)
    (All-map (λ (datum : Datum). IsCellText (cell_of datum)) datum_view values
    (subst (All is_text_value) (take_all count values over) below))

-- ---- OIDs

-- the OIDs of a list are spelled one after the other
pub spelled_oids : (tables : List ℕ) → flat_map int32 (map oid_of tables) ≡ flat_map oid_spelling tables
spelled_oids tables = flat_map-map int32 oid_of tables

pub spelled_truncate : (tables : List ℕ)
    → int8 84 ++ (int32 (length tables) ++ (int8 0 ++ flat_map oid_spelling tables))
    ≡ spelling_of (Truncate 0 (map oid_of tables))
spelled_truncate tables =
    ap (λ (n : ℕ). 84 ∷ (int32 n ++ (0 ∷ flat_map oid_spelling tables))) (sym (length-map tables oid_of))
    ∙ ap (λ (bytes : List ℕ). 84 ∷ (int32 (length (map oid_of tables)) ++ (0 ∷ bytes))) (sym (spelled_oids tables))

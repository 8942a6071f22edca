-- Each value of a type is read back from its text, and so each row of such values.
use Rattle.std.proofs.Common.{◌≡◌, ℕ, suc, ◌^◌, ◌<◌, ℤ, pos, negsuc, Bool, true, false, ◌&&◌, List, [], ◌∷◌, length, Option, Some, None, refl, ap, ◌∙◌, arith}
use Rattle.std.specs.Prelude.{int_le, ◌==◌, if◌then◌else◌, option_map, neg_ℤ, slice_get, IfSome, Contains, T}
use Rattle.std.specs.Fmt.{signed_decimal, decimal}
use Rattle.std.specs.Int.Signed.{mag}
use Rattle.std.specs.List.{list_any}
use Rattle.std.specs.Str.{bytes_eq}
use Rattle.std.specs.Str.Parse.{IsNumeral, digits_value, signed_digits_value}
use Rattle.std.proofs.lemmas.Bool.{eqb-true, le-leb}
use Rattle.std.proofs.lemmas.Fmt.{decimal_is_IsNumeral}
use Rattle.std.proofs.lemmas.Slice.Eq.{bytes_eq-Decides}
use Rattle.std.proofs.lemmas.Str.Parse.{digit_from_value}
use Rattle.filter_tree.specs.Datum.{Number, Truth, Bytes, Datum, Missing, Known, value_at}
use Rattle.filter_tree.specs.Range.{least_of, greatest_of}
use Rattle.filter_tree.specs.Valid.{IsWithin, IsText, Fits}
use Rattle.filter_tree.specs.declared.table.Column.{Column}
use Rattle.filter_tree.specs.declared.table.ColType.{ColType}
use Rattle.filter_tree.specs.declared.table.ColType.TheVariants as k
use Rattle.pgoutput_msgs.specs.ReadBack.{IsNullOrOf, AreOf, kinds_of, RowsReadBack, ValidRowsReadBack}
use Rattle.pgoutput_msgs.specs.ValueText.{cell_of, cells_of, number_if, number_in, truth_in, text_in, datum_in, row_with, row_in}
use Rattle.pgoutput_msgs.proofs.Fields.{not_true, is_not_zero}
use Rattle.pgoutput_msgs.proofs.ValueLemmas.{within_mag}

-- ---- numbers

plain_value : (ds : List ℕ) → IsNumeral 10 ds → signed_digits_value 10 ds ≡ pos (digits_value 10 ds)
plain_value [] h = absurd (omega (arith, h.0))
plain_value (c ∷ cs) h =
    let digit = digit_from_value c h.1.0 in
    let no_minus : (c == 45) ≡ false = not_true (c == 45) (λ e. let is = eqb-true c 45 e in omega (arith, is, digit)) in
    let no_plus : (c == 43) ≡ false = not_true (c == 43) (λ e. let is = eqb-true c 43 e in omega (arith, is, digit)) in
    rw (no_minus, no_plus) refl

own_value : (z : ℤ) → mag z < 2 ^ 63 → signed_digits_value 10 (signed_decimal z) ≡ z
own_value (pos n) small =
    let numeral = decimal_is_IsNumeral n (omega (arith, small)) in
    plain_value (decimal n) numeral.0 ∙ ap pos numeral.1
own_value (negsuc n) small =
    let numeral = decimal_is_IsNumeral (suc n) (omega (arith, small)) in
    ap (λ (m : ℕ). neg_ℤ (pos m)) numeral.1

test_true : (b : Bool) → T b → b ≡ true
test_true true h = refl
test_true false h = absurd h

if_some : (a b c : Bool) (z : ℤ) → a ≡ true → b ≡ true → c ≡ true → (if a && (b && c) then Some z else None) ≡ Some z
if_some a b c z p q r = rw (p, q, r) refl

number_back : (kind : ColType) (z : ℤ) → IsWithin kind z → number_in kind (signed_decimal z) ≡ Some z
unfolding number_in
number_back kind z h =
    let low : int_le (least_of kind) z ≡ true = test_true _ h.above_least.le in
    let high : int_le z (greatest_of kind) ≡ true = test_true _ h.below_greatest.le in
    ap (number_if kind (signed_decimal z)) (own_value z (within_mag kind z low high))
    ∙ if_some (bytes_eq (signed_decimal z) (signed_decimal z)) (int_le (least_of kind) z)
    (int_le z (greatest_of kind)) z
    ((bytes_eq-Decides (signed_decimal z) (signed_decimal z)).1 refl) low high

-- ---- texts

no_zero_any : (bytes : List ℕ) → ¬ Contains bytes 0 → list_any (λ byte. byte == 0) bytes ≡ false
no_zero_any [] none = refl
no_zero_any (n ∷ bytes) none =
    rw (
      is_not_zero n (λ e. none (0, omega arith, e)),
      no_zero_any bytes (λ contains. none (suc contains.0, omega (arith, contains.1), contains.2)),
    ) refl

text_back : (bytes : List ℕ) → IsText bytes → text_in bytes ≡ Some (Bytes bytes)
unfolding text_in
text_back bytes h = rw (no_zero_any bytes h.no_zero, le-leb _ _ h.short) refl

-- ---- values and rows

datum_back : (kind : ColType) (datum : Datum) → IsNullOrOf kind datum → datum_in kind (cell_of datum) ≡ Some datum
unfolding truth_in
datum_back kind Missing h = refl
datum_back k.SmallInt (Known (Number z)) h =
    ap (λ (x : Option ℤ). option_map Known (option_map Number x)) (number_back k.SmallInt z h)
datum_back k.Integer (Known (Number z)) h =
    ap (λ (x : Option ℤ). option_map Known (option_map Number x)) (number_back k.Integer z h)
datum_back k.BigInt (Known (Number z)) h =
    ap (λ (x : Option ℤ). option_map Known (option_map Number x)) (number_back k.BigInt z h)
datum_back k.Boolean (Known (Truth true)) h = refl
datum_back k.Boolean (Known (Truth false)) h = refl
datum_back k.Text (Known (Bytes bytes)) h = ap (option_map Known) (text_back bytes h.1)
datum_back k.SmallInt (Known (Truth _)) h = absurd h
datum_back k.SmallInt (Known (Bytes _)) h = absurd h
datum_back k.Integer (Known (Truth _)) h = absurd h
datum_back k.Integer (Known (Bytes _)) h = absurd h
datum_back k.BigInt (Known (Truth _)) h = absurd h
datum_back k.BigInt (Known (Bytes _)) h = absurd h
datum_back k.Boolean (Known (Number _)) h = absurd h
datum_back k.Boolean (Known (Bytes _)) h = absurd h
datum_back k.Text (Known (Number _)) h = absurd h
datum_back k.Text (Known (Truth _)) h = absurd h

pub rows_back : RowsReadBack
unfolding row_in
rows_back [] [] h = refl
rows_back (kind ∷ kinds) (datum ∷ row) h =
    ap (λ (x : Option Datum). row_with x (row_in kinds (cells_of row))) (datum_back kind datum h.0)
    ∙ ap (row_with (Some datum)) (rows_back kinds row h.1)
rows_back [] (datum ∷ row) h = absurd h
rows_back (kind ∷ kinds) [] h = absurd h

null_or_of : (column : Column) (datum : Datum) → Fits column datum → IsNullOrOf column.kind datum
null_or_of column Missing h = tt
null_or_of column (Known constant) h = h

pub are_of : (columns : List Column) (row : List Datum) → length row ≡ length columns
    → ((k : ℕ) → IfSome (slice_get columns k) (λ column. Fits column (value_at row k))) → AreOf (kinds_of columns) row
are_of [] [] long fits = tt
are_of [] (datum ∷ row) long fits = absurd (omega (arith, long))
are_of (column ∷ columns) [] long fits = absurd (omega (arith, long))
are_of (column ∷ columns) (datum ∷ row) long fits =
    (null_or_of column datum (fits 0), are_of columns row (omega (arith, long)) (λ j. fits (suc j)))

pub valid_rows_back : ValidRowsReadBack
valid_rows_back columns row valid = rows_back (kinds_of columns) row (are_of columns row valid.wide valid.fits)

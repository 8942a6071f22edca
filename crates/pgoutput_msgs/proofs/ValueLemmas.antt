-- The value of a text is the one whose own text it is, and each value of a type is read back.
use Rattle.std.proofs.Common.{◌≡◌, ℕ, suc, ◌+◌, ◌^◌, ◌<◌, ◌≤◌, ℤ, pos, negsuc, Bool, true, false, ◌&&◌, List, [], ◌∷◌, ◌++◌, length, Option, Some, None, Result, Ok, Err, refl, sym, ap, ◌∙◌, arith, get_or, drop, append_assoc, append-nil}
use Rattle.std.specs.Prelude.{int_le, if◌then◌else◌}
use Rattle.std.specs.Fmt.{signed_decimal}
use Rattle.std.specs.Int.{w64}
use Rattle.std.specs.Int.Signed.{mag}
use Rattle.std.specs.Str.{bytes_eq}
use Rattle.std.specs.Str.Parse.{ParsesSigned, signed_digits_value}
use Rattle.std.proofs.lemmas.Bool.{leb-true}
use Rattle.std.proofs.lemmas.Fmt.{parse-signed_decimal}
use Rattle.std.proofs.lemmas.List.{at_drop_more, at_drop_all}
use Rattle.std.proofs.lemmas.Slice.Eq.{bytes_eq-Decides}
use Rattle.filter_tree.specs.Datum.{Datum}
use Rattle.filter_tree.specs.Range.{least_of, greatest_of}
use Rattle.filter_tree.specs.declared.table.ColType.{ColType}
use Rattle.filter_tree.specs.declared.table.ColType.TheVariants as k
use Rattle.pgoutput_msgs.specs.ValueText.{number_if, number_in, datum_in, row_with, row_in}
use Rattle.pgoutput_msgs.specs.declared.tuple.Cell.{Cell}

pub within_mag : (kind : ColType) (z : ℤ) → int_le (least_of kind) z ≡ true → int_le z (greatest_of kind) ≡ true
    → mag z < 2 ^ 63
within_mag k.SmallInt (pos n) low high = omega (arith, leb-true _ _ high)
within_mag k.SmallInt (negsuc n) low high = omega (arith, leb-true _ _ low)
within_mag k.Integer (pos n) low high = omega (arith, leb-true _ _ high)
within_mag k.Integer (negsuc n) low high = omega (arith, leb-true _ _ low)
within_mag k.BigInt (pos n) low high = omega (arith, leb-true _ _ high)
within_mag k.BigInt (negsuc n) low high = omega (arith, leb-true _ _ low)
within_mag k.Boolean (pos n) low high = omega (arith, leb-true _ _ high)
within_mag k.Boolean (negsuc n) low high = omega (arith, leb-true _ _ low)
within_mag k.Text (pos n) low high = omega (arith, leb-true _ _ high)
within_mag k.Text (negsuc n) low high = omega (arith, leb-true _ _ low)

-- a text that is parsed gives its number, if it is the number's own text
pub number_read : {E : Type 0} (kind : ColType) (text : List ℕ) (z : ℤ) (r : Result ℤ E) → ParsesSigned w64 10 text r
    → r ≡ Ok z → number_in kind text ≡ number_if kind text z
unfolding number_in
number_read kind text z (Ok y) h e = let same : y ≡ z = cc in ap (number_if kind text) (sym h.1 ∙ same)
number_read kind text z (Err error) h e = absurd cc

if_none : (a b c : Bool) (z : ℤ) → (a ≡ true → b ≡ true → c ≡ true → ⊥)
    → (if a && (b && c) then Some z else None) ≡ None
if_none true true true z none = absurd (none refl refl refl)
if_none true true false z none = refl
if_none true false c z none = refl
if_none false b c z none = refl

-- a text that is not parsed is no number's own
pub number_refused : {E : Type 0} (kind : ColType) (text : List ℕ) (error : E) (r : Result ℤ E)
    → ParsesSigned w64 10 text r → r ≡ Err error → number_in kind text ≡ None
unfolding number_in
number_refused {E = E} kind text error r h e =
    let z = signed_digits_value 10 text in
    if_none (bytes_eq text (signed_decimal z)) (int_le (least_of kind) z) (int_le z (greatest_of kind)) z
    (λ own low high.
    let small = within_mag kind z low high in
    let same : r ≡ Ok z =
    parse-signed_decimal w64 z text r (record { sfits = small }) small
    ((bytes_eq-Decides text (signed_decimal z)).0 own) h in
    absurd cc)

-- ---- rows

-- values, and then those of a row
abbrev pub onto_row : List Datum → Option (List Datum) → Option (List Datum)
onto_row front None = None
onto_row front (Some row) = Some (front ++ row)

-- the values so far and the remaining ones are the row
pub record RowSoFar (kinds : List ColType) (cells : List Cell) (front : List Datum) (kinds_left : List ColType)
    (cells_left : List Cell) : Type 0 where
  pub row : onto_row front (row_in kinds_left cells_left) ≡ row_in kinds cells

onto_with : (front : List Datum) (datum : Datum) (others : Option (List Datum))
    → onto_row front (row_with (Some datum) others) ≡ onto_row (front ++ datum ∷ []) others
onto_with front datum None = refl
onto_with front datum (Some others) = ap (λ (all : List Datum). Some all) (sym (append_assoc front (datum ∷ []) others))

split_row : (kinds : List ColType) (cells : List Cell) (place : ℕ) (kind : ColType) (cell : Cell)
    → kind ≡ get_or kinds place kind → cell ≡ get_or cells place cell → place < length kinds → place < length cells
    → row_in (drop place kinds) (drop place cells)
    ≡ row_with (datum_in kind cell) (row_in (drop (place + 1) kinds) (drop (place + 1) cells))
unfolding row_in
split_row kinds cells place kind cell kind_is cell_is p q =
    at_drop_more (λ (ks : List ColType). row_in ks (drop place cells)) kinds place kind p
    ∙ ap (λ (x : ColType). row_in (x ∷ drop (place + 1) kinds) (drop place cells)) (sym kind_is)
    ∙ at_drop_more (row_in (kind ∷ drop (place + 1) kinds)) cells place cell q
    ∙ ap (λ (x : Cell). row_in (kind ∷ drop (place + 1) kinds) (x ∷ drop (place + 1) cells)) (sym cell_is)

pub row_goes_on : (kinds : List ColType) (cells : List Cell) (front : List Datum) (place : ℕ) (kind : ColType)
    (cell : Cell) (datum : Datum) → kind ≡ get_or kinds place kind → cell ≡ get_or cells place cell
    → place < length kinds → place < length cells → Some datum ≡ datum_in kind cell
    → RowSoFar kinds cells front (drop place kinds) (drop place cells)
    → RowSoFar kinds cells (front ++ datum ∷ []) (drop (place + 1) kinds) (drop (place + 1) cells)
row_goes_on kinds cells front place kind cell datum kind_is cell_is p q is so_far =
    let rest = row_in (drop (place + 1) kinds) (drop (place + 1) cells) in
    record {
      row = sym (onto_with front datum rest) ∙ ap (λ (x : Option Datum). onto_row front (row_with x rest)) is
          ∙ ap (onto_row front) (sym (split_row kinds cells place kind cell kind_is cell_is p q)) ∙ so_far.row;
    }

pub no_row : (kinds : List ColType) (cells : List Cell) (front : List Datum) (place : ℕ) (kind : ColType)
    (cell : Cell) → kind ≡ get_or kinds place kind → cell ≡ get_or cells place cell
    → place < length kinds → place < length cells → None ≡ datum_in kind cell
    → RowSoFar kinds cells front (drop place kinds) (drop place cells) → row_in kinds cells ≡ None
no_row kinds cells front place kind cell kind_is cell_is p q is so_far =
    let rest = row_in (drop (place + 1) kinds) (drop (place + 1) cells) in
    sym so_far.row ∙ ap (onto_row front) (split_row kinds cells place kind cell kind_is cell_is p q)
    ∙ ap (λ (x : Option Datum). onto_row front (row_with x rest)) (sym is)

pub row_ended : (kinds : List ColType) (cells : List Cell) (front : List Datum) (place : ℕ) → length kinds ≤ place
    → length cells ≤ place → RowSoFar kinds cells front (drop place kinds) (drop place cells)
    → row_in kinds cells ≡ Some front
unfolding row_in
row_ended kinds cells front place p q so_far =
    sym so_far.row ∙ ap (onto_row front)
    (at_drop_all (λ (ks : List ColType). row_in ks (drop place cells)) kinds place p
    ∙ at_drop_all (row_in []) cells place q)
    ∙ ap (λ (all : List Datum). Some all) (append-nil front)

with_none : (x : Option Datum) → row_with x None ≡ None
with_none None = refl
with_none (Some datum) = refl

-- a tuple of another width has no row
pub other_width : (kinds : List ColType) (cells : List Cell) → (length cells ≡ length kinds → ⊥)
    → row_in kinds cells ≡ None
unfolding row_in
other_width [] [] apart = absurd (apart refl)
other_width [] (cell ∷ cells) apart = refl
other_width (kind ∷ kinds) [] apart = refl
other_width (kind ∷ kinds) (cell ∷ cells) apart =
    ap (row_with (datum_in kind cell)) (other_width kinds cells (λ e. apart (ap suc e)))
    ∙ with_none (datum_in kind cell)

-- Loops that gather what a list gives item by item, until one gives nothing.
use Rattle.std.proofs.Common.{◌≡◌, ◌≢◌, ℕ, ◌+◌, ◌<◌, ◌≤◌, false, ◌&&◌, List, [], ◌∷◌, ◌++◌, length, refl, sym, ◌∙◌, ap, arith, append_assoc, append-nil, drop, get_or, suc, add-one, drop-cons}
use Rattle.std.proofs.Math.ListN.{drop_of_length-le}
use Rattle.std.specs.Prelude.{Option, Some, None}
use Rattle.filter_tree.specs.Datum.{Datum}
use Rattle.filter_tree.specs.declared.table.ColType.{ColType}
use Rattle.pgoutput_msgs.specs.declared.relation.RelationColumn.{RelationColumn}
use Rattle.pgoutput_msgs.specs.declared.tuple.Cell.{Cell}
use Rattle.pgoutput_msgs.specs.ValueText.{row_in, row_with, datum_in}
use Rattle.test_subscriber.specs.SameRelation.{same_column, same_columns}
use Rattle.test_subscriber.specs.Shapes.{with_kind}
use Rattle.filter_tree.proofs.Tests.{and_false}

-- what was gathered, and then the rest
abbrev pub after : {A : Type 0} → List A → Option (List A) → Option (List A)
after made None = None
after made (Some rest) = Some (made ++ rest)

-- ---- types of columns

pub kind_made : (made : List ColType) (kind : ColType) (rest : Option (List ColType))
    → after (made ++ kind ∷ []) rest ≡ after made (with_kind (Some kind) rest)
kind_made made kind None = refl
kind_made made kind (Some rest) = ap Some (append_assoc made (kind ∷ []) rest)

-- ---- values

value_made : (made : List Datum) (datum : Datum) (rest : Option (List Datum))
    → after (made ++ datum ∷ []) rest ≡ after made (row_with (Some datum) rest)
value_made made datum None = refl
value_made made datum (Some rest) = ap Some (append_assoc made (datum ∷ []) rest)

row_opens : (kind : ColType) (kinds : List ColType) (cell : Cell) (cells : List Cell)
    → row_in (kind ∷ kinds) (cell ∷ cells) ≡ row_with (datum_in kind cell) (row_in kinds cells)
unfolding row_in
row_opens kind kinds cell cells = refl

row_ends : row_in [] [] ≡ Some []
unfolding row_in
row_ends = refl

-- the next value, and those of the other columns
row_step : (kinds : List ColType) (cells : List Cell) (i : ℕ) (kind : ColType) (cell : Cell) → i < length kinds
    → i < length cells
    → row_in (drop i kinds) (drop i cells)
    ≡ row_with (datum_in (get_or kinds i kind) (get_or cells i cell))
    (row_in (drop (i + 1) kinds) (drop (i + 1) cells))
row_step kinds cells i kind cell low under =
    rw (add-one, drop-cons kinds i kind low, drop-cons cells i cell under)
    (row_opens (get_or kinds i kind) (drop (suc i) kinds) (get_or cells i cell) (drop (suc i) cells))

pub row_fails : (made : List Datum) (kinds : List ColType) (cells : List Cell) (i : ℕ) (kind : ColType) (cell : Cell)
    → i < length kinds → length kinds ≡ length cells
    → cell ≡ get_or cells i cell → datum_in (get_or kinds i kind) cell ≡ None
    → after made (row_in (drop i kinds) (drop i cells)) ≡ None
row_fails made kinds cells i kind cell low same at none =
    let under : i < length cells = omega arith in
    ap (after made) (row_step kinds cells i kind cell low under
    ∙ ap (λ found. row_with found (row_in (drop (i + 1) kinds) (drop (i + 1) cells)))
    (ap (datum_in (get_or kinds i kind)) (sym at) ∙ none))

pub row_goes_on : (made : List Datum) (datum : Datum) (kinds : List ColType) (cells : List Cell) (i : ℕ)
    (kind : ColType) (cell : Cell) → i < length kinds
    → length kinds ≡ length cells → cell ≡ get_or cells i cell → datum_in (get_or kinds i kind) cell ≡ Some datum
    → after (made ++ datum ∷ []) (row_in (drop (i + 1) kinds) (drop (i + 1) cells))
    ≡ after made (row_in (drop i kinds) (drop i cells))
row_goes_on made datum kinds cells i kind cell low same at found =
    let under : i < length cells = omega arith in
    value_made made datum (row_in (drop (i + 1) kinds) (drop (i + 1) cells))
    ∙ sym (ap (after made)
    (row_step kinds cells i kind cell low under
    ∙ ap (λ value. row_with value (row_in (drop (i + 1) kinds) (drop (i + 1) cells)))
    (ap (datum_in (get_or kinds i kind)) (sym at) ∙ found)))

pub row_done : (made : List Datum) (kinds : List ColType) (cells : List Cell) (i : ℕ) → length kinds ≤ i
    → length kinds ≡ length cells
    → after made (row_in (drop i kinds) (drop i cells)) ≡ Some made
row_done made kinds cells i past same =
    let over : length cells ≤ i = omega arith in
    ap (after made) (ap (λ some. row_in some (drop i cells)) (drop_of_length-le kinds past)
    ∙ ap (row_in []) (drop_of_length-le cells over) ∙ row_ends)
    ∙ ap Some (append-nil made)

no_row : (datum : Option Datum) → row_with datum None ≡ None
no_row None = refl
no_row (Some datum) = refl

-- there is no row of another width
pub other_width : (kinds : List ColType) (cells : List Cell) → length kinds ≢ length cells → row_in kinds cells ≡ None
unfolding row_in
other_width [] [] h = absurd (h refl)
other_width [] (cell ∷ cells) h = refl
other_width (kind ∷ kinds) [] h = refl
other_width (kind ∷ kinds) (cell ∷ cells) h =
    ap (row_with (datum_in kind cell)) (other_width kinds cells (λ same. h (omega arith))) ∙ no_row (datum_in kind cell)

-- ---- columns

pub other_count : (one other : List RelationColumn) → length one ≢ length other → same_columns one other ≡ false
other_count [] [] h = absurd (h refl)
other_count [] (column ∷ columns) h = refl
other_count (column ∷ columns) [] h = refl
other_count (column ∷ columns) (other ∷ others) h =
    ap (λ rest. same_column column other && rest) (other_count columns others (λ same. h (omega arith)))
    ∙ and_false (same_column column other)

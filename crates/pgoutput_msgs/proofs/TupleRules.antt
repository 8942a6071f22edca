-- Rows in messages are read as they are spelled.
use Rattle.std.proofs.Common.{◌≡◌, ℕ, ◌^◌, ◌<◌, List, [], ◌∷◌, ◌++◌, length, All, refl, sym, arith}
use Rattle.std.specs.List.{flat_map, AllByRecursion}
use Rattle.std.specs.Str.{IsUtf8}
use Rattle.std.proofs.lemmas.List.Elements.{All-from_recursion, recursion_from_All}
use Rattle.pgoutput_msgs.specs.declared.error.MsgError.TheVariants.{Unknown, Toast}
use Rattle.pgoutput_msgs.specs.declared.tuple.Cell.{Cell}
use Rattle.pgoutput_msgs.specs.declared.tuple.Cell.TheVariants.{Null, Text}
use Rattle.pgoutput_msgs.specs.declared.tuple.OldTuple.{OldTuple}
use Rattle.pgoutput_msgs.specs.declared.tuple.OldTuple.TheVariants.{Key, Full}
use Rattle.pgoutput_msgs.specs.Ranges.{IsCell, IsTuple, IsOld}
use Rattle.pgoutput_msgs.specs.Reading.{Rule, pure, fail, ◌>>=◌, mapped, many, byte, count16, text_at, cell_by, cell_at, tuple_at, old_by, new_by_letter, new_at}
use Rattle.pgoutput_msgs.specs.Spelling.{int8, int16, cell_spelling, tuple_spelling, old_spelling, new_spelling}
use Rattle.pgoutput_msgs.proofs.Exact.{Exact, exact_then, exact_as, exact_fail, exact_if, exact_value, exact_mapped, exact_many}
use Rattle.pgoutput_msgs.proofs.Fields.{exact_byte, exact_count16, sized, exact_text}

-- a number of values, with a fact about each
pub many_all : {A : Type 0} (rule : Rule A) (spell : A → List ℕ) (Fits : A → Type 0) → Exact rule spell Fits → (n : ℕ)
    → Exact (many rule n) (flat_map spell) (λ all. (length all ≡ n) × All Fits all)
many_all rule spell Fits one n =
    exact_as (many rule n) (flat_map spell) (λ all. (length all ≡ n) × AllByRecursion Fits all) (flat_map spell)
    (λ all. (length all ≡ n) × All Fits all) (exact_many rule spell Fits one n)
    (λ all fits. (refl, (fits.0, All-from_recursion Fits all fits.1)))
    (λ all fits. (fits.0, recursion_from_All Fits all fits.1))

-- ---- TupleData

abbrev pub cell_letter : Cell → ℕ
cell_letter Null = 110
cell_letter (Text text) = 116

abbrev pub cell_rest : Cell → List ℕ
cell_rest Null = []
cell_rest (Text text) = sized text

null_alone : (c : Cell) → cell_letter c ≡ 110 → c ≡ Null
null_alone Null e = refl
null_alone (Text text) e = absurd (omega (arith, e))

no_toast : (c : Cell) → (cell_letter c ≡ 117) × IsCell c → ⊥
no_toast Null h = omega (arith, h.0)
no_toast (Text text) h = omega (arith, h.0)

text_back : (c : Cell) → (cell_letter c ≡ 116) × IsCell c → (text : List ℕ)
    × ((Text text ≡ c) × (IsUtf8 text × (length text < 2 ^ 31)))
text_back Null h = absurd (omega (arith, h.0))
text_back (Text text) h = (text, (refl, h.1))

no_cell : (kind : ℕ) → (kind ≡ 110 → ⊥) → (kind ≡ 116 → ⊥) → (c : Cell) → (cell_letter c ≡ kind) × IsCell c → ⊥
no_cell kind p q Null h = p (sym h.0)
no_cell kind p q (Text text) h = q (sym h.0)

exact_cell_by : (kind : ℕ) → Exact (cell_by kind) cell_rest (λ c. (cell_letter c ≡ kind) × IsCell c)
exact_cell_by kind =
    exact_if kind 110 (pure Null) _ cell_rest IsCell cell_letter
    (exact_value Null cell_rest IsCell cell_letter 110 refl refl tt null_alone) (λ p.
    exact_if kind 117 (fail Toast) _ cell_rest IsCell cell_letter
    (exact_fail Toast cell_rest (λ c. (cell_letter c ≡ 117) × IsCell c) no_toast) (λ _.
    exact_if kind 116 (mapped Text text_at) (fail (Unknown kind)) cell_rest IsCell cell_letter
    (exact_mapped text_at sized (λ text. IsUtf8 text × (length text < 2 ^ 31)) Text cell_rest
    (λ c. (cell_letter c ≡ 116) × IsCell c) exact_text
    (λ text fits. (refl, (refl, fits))) text_back)
    (λ q. exact_fail (Unknown kind) cell_rest (λ c. (cell_letter c ≡ kind) × IsCell c) (no_cell kind p q))))

cell_is : (c : Cell) → (cell_letter c ∷ []) ++ cell_rest c ≡ cell_spelling c
cell_is Null = refl
cell_is (Text text) = refl

byte_of_cell : (c : Cell) → cell_letter c < 256
byte_of_cell Null = omega arith
byte_of_cell (Text text) = omega arith

pub exact_cell : Exact cell_at cell_spelling IsCell
unfolding cell_at
exact_cell = exact_as (byte >>= cell_by) (λ c. (cell_letter c ∷ []) ++ cell_rest c)
    (λ c. (cell_letter c < 256) × IsCell c) cell_spelling IsCell
    (exact_then byte cell_by int8 cell_rest (λ n. n < 256) IsCell cell_letter exact_byte (λ kind _. exact_cell_by kind))
    (λ c fits. (cell_is c, fits.1)) (λ c fits. (byte_of_cell c, fits))

pub exact_tuple : Exact tuple_at tuple_spelling IsTuple
unfolding tuple_at
exact_tuple = exact_then count16 (many cell_at) int16 (flat_map cell_spelling) (λ n. n < 2 ^ 15) (All IsCell) length
    exact_count16
    (λ n _. many_all cell_at cell_spelling IsCell exact_cell n)

-- ---- old and new rows

abbrev pub old_letter : OldTuple → ℕ
old_letter (Key tuple) = 75
old_letter (Full tuple) = 79

abbrev pub old_rest : OldTuple → List ℕ
old_rest (Key tuple) = tuple_spelling tuple
old_rest (Full tuple) = tuple_spelling tuple

key_back : (o : OldTuple) → (old_letter o ≡ 75) × IsOld o → (tuple : List Cell) × ((Key tuple ≡ o) × IsTuple tuple)
key_back (Key tuple) h = (tuple, (refl, h.1))
key_back (Full tuple) h = absurd (omega (arith, h.0))

full_back : (o : OldTuple) → (old_letter o ≡ 79) × IsOld o → (tuple : List Cell) × ((Full tuple ≡ o) × IsTuple tuple)
full_back (Key tuple) h = absurd (omega (arith, h.0))
full_back (Full tuple) h = (tuple, (refl, h.1))

no_old : (kind : ℕ) → (kind ≡ 75 → ⊥) → (kind ≡ 79 → ⊥) → (o : OldTuple) → (old_letter o ≡ kind) × IsOld o → ⊥
no_old kind p q (Key tuple) h = p (sym h.0)
no_old kind p q (Full tuple) h = q (sym h.0)

pub exact_old_by : (kind : ℕ) → Exact (old_by kind) old_rest (λ o. (old_letter o ≡ kind) × IsOld o)
unfolding old_by
exact_old_by kind =
    exact_if kind 75 (mapped Key tuple_at) _ old_rest IsOld old_letter
    (exact_mapped tuple_at tuple_spelling IsTuple Key old_rest (λ o. (old_letter o ≡ 75) × IsOld o) exact_tuple
    (λ tuple fits. (refl, (refl, fits))) key_back) (λ p.
    exact_if kind 79 (mapped Full tuple_at) (fail (Unknown kind)) old_rest IsOld old_letter
    (exact_mapped tuple_at tuple_spelling IsTuple Full old_rest (λ o. (old_letter o ≡ 79) × IsOld o) exact_tuple
    (λ tuple fits. (refl, (refl, fits))) full_back)
    (λ q. exact_fail (Unknown kind) old_rest (λ o. (old_letter o ≡ kind) × IsOld o) (no_old kind p q)))

pub old_is : (o : OldTuple) → (old_letter o ∷ []) ++ old_rest o ≡ old_spelling o
old_is (Key tuple) = refl
old_is (Full tuple) = refl

pub byte_of_old : (o : OldTuple) → old_letter o < 256
byte_of_old (Key tuple) = omega arith
byte_of_old (Full tuple) = omega arith

pub exact_old : Exact (byte >>= old_by) old_spelling IsOld
exact_old = exact_as (byte >>= old_by) (λ o. (old_letter o ∷ []) ++ old_rest o) (λ o. (old_letter o < 256) × IsOld o)
    old_spelling IsOld
    (exact_then byte old_by int8 old_rest (λ n. n < 256) IsOld old_letter exact_byte (λ kind _. exact_old_by kind))
    (λ o fits. (old_is o, fits.1)) (λ o fits. (byte_of_old o, fits))

abbrev pub new_letter : List Cell → ℕ
new_letter tuple = 78

exact_new_by : (kind : ℕ) → Exact (new_by_letter kind) tuple_spelling (λ t. (new_letter t ≡ kind) × IsTuple t)
exact_new_by kind =
    exact_if kind 78 tuple_at (fail (Unknown kind)) tuple_spelling IsTuple new_letter
    (exact_as tuple_at tuple_spelling IsTuple tuple_spelling (λ t. (new_letter t ≡ 78) × IsTuple t) exact_tuple
    (λ t fits. (refl, (refl, fits))) (λ t fits. fits.1))
    (λ p. exact_fail (Unknown kind) tuple_spelling (λ t. (new_letter t ≡ kind) × IsTuple t) (λ t h. p (sym h.0)))

pub exact_new : Exact new_at new_spelling IsTuple
unfolding new_at
exact_new =
    exact_as (byte >>= new_by_letter) (λ t. (78 ∷ []) ++ tuple_spelling t) (λ t. (78 < 256) × IsTuple t) new_spelling
    IsTuple
    (exact_then byte new_by_letter int8 tuple_spelling (λ n. n < 256) IsTuple new_letter exact_byte
    (λ kind _. exact_new_by kind))
    (λ t fits. (refl, fits.1)) (λ t fits. (omega arith, fits))

-- Where rows and tables in messages are not read.
use Rattle.std.proofs.Common.{◌≡◌, ℕ, ◌^◌, ◌<◌, true, false, List, ◌∷◌, ◌++◌, length, All, refl, arith, inl, inr}
use Rattle.std.specs.Int.{w32}
use Rattle.std.specs.List.{flat_map, AllByRecursion}
use Rattle.std.specs.Str.{IsUtf8}
use Rattle.std.proofs.lemmas.List.Elements.{All-from_recursion}
use Rattle.pgoutput_msgs.specs.declared.error.MsgError.TheVariants.{Unknown, Toast}
use Rattle.pgoutput_msgs.specs.declared.relation.ReplicaIdentity.TheVariants as i
use Rattle.pgoutput_msgs.specs.declared.tuple.Cell.{Cell}
use Rattle.pgoutput_msgs.specs.declared.tuple.Cell.TheVariants.{Null, Text}
use Rattle.pgoutput_msgs.specs.declared.tuple.OldTuple.TheVariants.{Key, Full}
use Rattle.pgoutput_msgs.specs.Ranges.{IsCell, IsTuple, IsOld, IsName, IsColumn}
use Rattle.pgoutput_msgs.specs.Reading.{Rule, pure, fail, ◌>>=◌, mapped, ◌&◌, many, byte, big_endian, count16, string_at, text_at, cell_by, cell_at, tuple_at, old_by, new_by_letter, new_at, identity_by_letter, identity_at, flag_by, key_flag_at, column_at, relation_columns_at}
use Rattle.pgoutput_msgs.specs.Spelling.{int16, int32, string, identity_letter, key_flag, cell_spelling, tuple_spelling, old_spelling, new_spelling, column_spelling, columns_spelling}
use Rattle.pgoutput_msgs.proofs.Exact.{Exact}
use Rattle.pgoutput_msgs.proofs.Fields.{exact_int32, exact_count16, exact_string, sized}
use Rattle.pgoutput_msgs.proofs.RelationRules.{nothing_more, Always, letter_of, flag_of, exact_flag, exact_identity, column_of, FieldsFit, fields_of, column_made, exact_column, relation_parts, RelationFits}
use Rattle.pgoutput_msgs.proofs.Stopping.{Halts, Branch, unknown, branch_if, halts_pure, halts_then, halts_mapped, halts_as, halts_both, halts_many, halts_letter}
use Rattle.pgoutput_msgs.proofs.StoppingFields.{halts_number, halts_count16, halts_string, halts_text}
use Rattle.pgoutput_msgs.proofs.TupleRules.{cell_letter, cell_rest, exact_cell, old_letter, old_rest, old_is, new_letter}

-- a number of values, with a fact about each
pub halts_all : {A : Type 0} (rule : Rule A) (spell : A → List ℕ) (Fits : A → Type 0) → Exact rule spell Fits
    → Halts rule spell Fits → (n : ℕ) → Halts (many rule n) (flat_map spell) (λ all. (length all ≡ n) × All Fits all)
halts_all rule spell Fits exact one n =
    halts_as (many rule n) (flat_map spell) (λ all. (length all ≡ n) × AllByRecursion Fits all) (flat_map spell)
    (λ all. (length all ≡ n) × All Fits all) (halts_many rule spell Fits exact one n)
    (λ all fits. (refl, (fits.0, All-from_recursion Fits all fits.1)))

-- ---- TupleData

cell_branch : (kind : ℕ) → Branch (cell_by kind) kind cell_rest IsCell cell_letter
cell_branch kind =
    branch_if kind 110 (pure Null) _ cell_rest IsCell cell_letter
    (inl (halts_pure Null cell_rest (λ c. (cell_letter c ≡ 110) × IsCell c) (refl, tt)))
    (branch_if kind 117 (fail Toast) _ cell_rest IsCell cell_letter
    (inr (record { fault = Toast; is_bad = refl; always = λ bytes. refl }))
    (branch_if kind 116 (mapped Text text_at) (fail (Unknown kind)) cell_rest IsCell cell_letter
    (inl (halts_mapped text_at sized (λ text. IsUtf8 text × (length text < 2 ^ 31)) Text cell_rest
    (λ c. (cell_letter c ≡ 116) × IsCell c) halts_text (λ text fits. (refl, (refl, fits)))))
    (unknown kind cell_rest IsCell cell_letter)))

cell_is : (c : Cell) → cell_letter c ∷ cell_rest c ≡ cell_spelling c
cell_is Null = refl
cell_is (Text text) = refl

halts_cell : Halts cell_at cell_spelling IsCell
unfolding cell_at
halts_cell = halts_as (byte >>= cell_by) (λ c. cell_letter c ∷ cell_rest c) IsCell cell_spelling IsCell
    (halts_letter cell_by cell_rest IsCell cell_letter Null tt cell_branch) (λ c fits. (cell_is c, fits))

pub halts_tuple : Halts tuple_at tuple_spelling IsTuple
unfolding tuple_at
halts_tuple = halts_then count16 (many cell_at) int16 (flat_map cell_spelling) (λ n. n < 2 ^ 15) (All IsCell) length
    exact_count16 halts_count16 (λ n _. halts_all cell_at cell_spelling IsCell exact_cell halts_cell n)

-- ---- old and new rows

pub old_branch : (kind : ℕ) → Branch (old_by kind) kind old_rest IsOld old_letter
unfolding old_by
old_branch kind =
    branch_if kind 75 (mapped Key tuple_at) _ old_rest IsOld old_letter
    (inl (halts_mapped tuple_at tuple_spelling IsTuple Key old_rest (λ o. (old_letter o ≡ 75) × IsOld o) halts_tuple
    (λ tuple fits. (refl, (refl, fits)))))
    (branch_if kind 79 (mapped Full tuple_at) (fail (Unknown kind)) old_rest IsOld old_letter
    (inl (halts_mapped tuple_at tuple_spelling IsTuple Full old_rest (λ o. (old_letter o ≡ 79) × IsOld o) halts_tuple
    (λ tuple fits. (refl, (refl, fits))))) (unknown kind old_rest IsOld old_letter))

pub halts_old : Halts (byte >>= old_by) old_spelling IsOld
halts_old = halts_as (byte >>= old_by) (λ o. old_letter o ∷ old_rest o) IsOld old_spelling IsOld
    (halts_letter old_by old_rest IsOld old_letter (Key halts_tuple.value) halts_tuple.fits old_branch)
    (λ o fits. (old_is o, fits))

new_branch : (kind : ℕ) → Branch (new_by_letter kind) kind tuple_spelling IsTuple new_letter
new_branch kind =
    branch_if kind 78 tuple_at (fail (Unknown kind)) tuple_spelling IsTuple new_letter
    (inl (halts_as tuple_at tuple_spelling IsTuple tuple_spelling (λ t. (new_letter t ≡ 78) × IsTuple t) halts_tuple
    (λ t fits. (refl, (refl, fits))))) (unknown kind tuple_spelling IsTuple new_letter)

pub halts_new : Halts new_at new_spelling IsTuple
unfolding new_at
halts_new = halts_as (byte >>= new_by_letter) (λ t. new_letter t ∷ tuple_spelling t) IsTuple new_spelling IsTuple
    (halts_letter new_by_letter tuple_spelling IsTuple new_letter halts_tuple.value halts_tuple.fits new_branch)
    (λ t fits. (refl, fits))

-- ---- Relation

identity_branch : (kind : ℕ) → Branch (identity_by_letter kind) kind nothing_more Always identity_letter
identity_branch kind =
    branch_if kind 100 (pure i.Default) _ nothing_more Always identity_letter
    (inl (halts_pure i.Default nothing_more (λ x. (identity_letter x ≡ 100) × Unit {0}) (refl, tt)))
    (branch_if kind 110 (pure i.Nothing) _ nothing_more Always identity_letter
    (inl (halts_pure i.Nothing nothing_more (λ x. (identity_letter x ≡ 110) × Unit {0}) (refl, tt)))
    (branch_if kind 102 (pure i.Full) _ nothing_more Always identity_letter
    (inl (halts_pure i.Full nothing_more (λ x. (identity_letter x ≡ 102) × Unit {0}) (refl, tt)))
    (branch_if kind 105 (pure i.Index) (fail (Unknown kind)) nothing_more Always identity_letter
    (inl (halts_pure i.Index nothing_more (λ x. (identity_letter x ≡ 105) × Unit {0}) (refl, tt)))
    (unknown kind nothing_more Always identity_letter))))

halts_identity : Halts identity_at letter_of Always
unfolding identity_at
halts_identity = halts_letter identity_by_letter nothing_more Always identity_letter i.Default tt identity_branch

flag_branch : (kind : ℕ) → Branch (flag_by kind) kind nothing_more Always key_flag
flag_branch kind =
    branch_if kind 0 (pure false) _ nothing_more Always key_flag
    (inl (halts_pure false nothing_more (λ x. (key_flag x ≡ 0) × Unit {0}) (refl, tt)))
    (branch_if kind 1 (pure true) (fail (Unknown kind)) nothing_more Always key_flag
    (inl (halts_pure true nothing_more (λ x. (key_flag x ≡ 1) × Unit {0}) (refl, tt)))
    (unknown kind nothing_more Always key_flag))

halts_flag : Halts key_flag_at flag_of Always
unfolding key_flag_at
halts_flag = halts_letter flag_by nothing_more Always key_flag false tt flag_branch

pub halts_int32 : Halts (big_endian w32) int32 (λ n. n < 2 ^ 32)
halts_int32 = halts_number w32 (λ n. n < 2 ^ 32) (omega arith)

halts_column : Halts column_at column_spelling IsColumn
unfolding column_at
halts_column = halts_mapped (key_flag_at & string_at & big_endian w32 & big_endian w32) fields_of FieldsFit column_of
    column_spelling IsColumn
    (halts_both key_flag_at flag_of Always (string_at & big_endian w32 & big_endian w32)
    (λ f. string f.0 ++ (int32 f.1.0 ++ int32 f.1.1)) (λ f. IsName f.0 × ((f.1.0 < 2 ^ 32) × (f.1.1 < 2 ^ 32)))
    exact_flag halts_flag
    (halts_both string_at string IsName (big_endian w32 & big_endian w32) (λ f. int32 f.0 ++ int32 f.1)
    (λ f. (f.0 < 2 ^ 32) × (f.1 < 2 ^ 32)) exact_string halts_string
    (halts_both (big_endian w32) int32 (λ n. n < 2 ^ 32) (big_endian w32) int32 (λ n. n < 2 ^ 32) exact_int32
    halts_int32 halts_int32))) column_made

halts_columns : Halts relation_columns_at columns_spelling (λ columns. (length columns < 2 ^ 15) × All IsColumn columns)
unfolding relation_columns_at
halts_columns = halts_then count16 (many column_at) int16 (flat_map column_spelling) (λ n. n < 2 ^ 15) (All IsColumn)
    length exact_count16 halts_count16
    (λ n _. halts_all column_at column_spelling IsColumn exact_column halts_column n)

pub halts_relation_fields : Halts
    (big_endian w32 & string_at & string_at & identity_at & relation_columns_at) relation_parts
    RelationFits
halts_relation_fields =
    halts_both (big_endian w32) int32 (λ n. n < 2 ^ 32) (string_at & string_at & identity_at & relation_columns_at)
    (λ f. string f.0 ++ (string f.1.0 ++ (letter_of f.1.1.0 ++ columns_spelling f.1.1.1)))
    (λ f. IsName f.0 × (IsName f.1.0 × (Unit {0} × ((length f.1.1.1 < 2 ^ 15) × All IsColumn f.1.1.1)))) exact_int32
    halts_int32
    (halts_both string_at string IsName (string_at & identity_at & relation_columns_at)
    (λ f. string f.0 ++ (letter_of f.1.0 ++ columns_spelling f.1.1))
    (λ f. IsName f.0 × (Unit {0} × ((length f.1.1 < 2 ^ 15) × All IsColumn f.1.1))) exact_string halts_string
    (halts_both string_at string IsName (identity_at & relation_columns_at)
    (λ f. letter_of f.0 ++ columns_spelling f.1) (λ f. Unit {0} × ((length f.1 < 2 ^ 15) × All IsColumn f.1))
    exact_string halts_string
    (halts_both identity_at letter_of Always relation_columns_at columns_spelling
    (λ columns. (length columns < 2 ^ 15) × All IsColumn columns) exact_identity halts_identity halts_columns)))

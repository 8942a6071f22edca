-- Tables in messages are read as they are spelled.
use Rattle.std.proofs.Common.{◌≡◌, ℕ, ◌^◌, ◌<◌, Bool, true, false, List, [], ◌∷◌, ◌++◌, length, All, refl, sym, ap, arith}
use Rattle.std.specs.Prelude.{ℤ, FitsSigned}
use Rattle.std.specs.Int.{w32, cast_signed, cast_unsigned}
use Rattle.std.specs.List.{flat_map}
use Rattle.std.proofs.lemmas.Int.{of_z-to_z}
use Rattle.std.proofs.Math.Facts.{sfits_to_z, to_z-of_z, Fits-of_z, Fits-of_lt, Fits-lt-pow}
use Rattle.pgoutput_msgs.specs.declared.error.MsgError.TheVariants.{Unknown}
use Rattle.pgoutput_msgs.specs.declared.relation.Relation.{Relation}
use Rattle.pgoutput_msgs.specs.declared.relation.RelationColumn.{RelationColumn}
use Rattle.pgoutput_msgs.specs.declared.relation.ReplicaIdentity.{ReplicaIdentity}
use Rattle.pgoutput_msgs.specs.declared.relation.ReplicaIdentity.TheVariants as i
use Rattle.pgoutput_msgs.specs.Ranges.{IsName, IsColumn}
use Rattle.pgoutput_msgs.specs.Reading.{pure, fail, ◌>>=◌, ◌&◌, many, byte, big_endian, count16, string_at, identity_by_letter, identity_at, flag_by, key_flag_at, column_at, relation_columns_at}
use Rattle.pgoutput_msgs.specs.Spelling.{int8, int16, int32, string, identity_letter, key_flag, column_spelling, columns_spelling}
use Rattle.pgoutput_msgs.proofs.Exact.{Exact, exact_then, exact_as, exact_fail, exact_if, exact_value, exact_mapped, exact_both}
use Rattle.pgoutput_msgs.proofs.Fields.{exact_byte, exact_int32, exact_count16, exact_string}
use Rattle.pgoutput_msgs.proofs.TupleRules.{many_all}

-- ---- Relation

default_alone : (x : ReplicaIdentity) → identity_letter x ≡ 100 → x ≡ i.Default
default_alone i.Default e = refl
default_alone i.Nothing e = absurd (omega (arith, e))
default_alone i.Full e = absurd (omega (arith, e))
default_alone i.Index e = absurd (omega (arith, e))

nothing_alone : (x : ReplicaIdentity) → identity_letter x ≡ 110 → x ≡ i.Nothing
nothing_alone i.Default e = absurd (omega (arith, e))
nothing_alone i.Nothing e = refl
nothing_alone i.Full e = absurd (omega (arith, e))
nothing_alone i.Index e = absurd (omega (arith, e))

full_alone : (x : ReplicaIdentity) → identity_letter x ≡ 102 → x ≡ i.Full
full_alone i.Default e = absurd (omega (arith, e))
full_alone i.Nothing e = absurd (omega (arith, e))
full_alone i.Full e = refl
full_alone i.Index e = absurd (omega (arith, e))

index_alone : (x : ReplicaIdentity) → identity_letter x ≡ 105 → x ≡ i.Index
index_alone i.Default e = absurd (omega (arith, e))
index_alone i.Nothing e = absurd (omega (arith, e))
index_alone i.Full e = absurd (omega (arith, e))
index_alone i.Index e = refl

no_identity : (kind : ℕ) → (kind ≡ 100 → ⊥) → (kind ≡ 110 → ⊥) → (kind ≡ 102 → ⊥) → (kind ≡ 105 → ⊥)
    → (x : ReplicaIdentity) → (identity_letter x ≡ kind) × Unit {0} → ⊥
no_identity kind p q r s i.Default h = p (sym h.0)
no_identity kind p q r s i.Nothing h = q (sym h.0)
no_identity kind p q r s i.Full h = r (sym h.0)
no_identity kind p q r s i.Index h = s (sym h.0)

abbrev pub nothing_more : {A : Type 0} → A → List ℕ
nothing_more a = []

abbrev pub Always : {A : Type 0} → A → Type 0
Always a = Unit {0}

exact_identity_by : (kind : ℕ)
    → Exact (identity_by_letter kind) nothing_more (λ x. (identity_letter x ≡ kind) × Unit {0})
exact_identity_by kind =
    exact_if kind 100 (pure i.Default) _ nothing_more Always identity_letter
    (exact_value i.Default nothing_more Always identity_letter 100 refl refl tt default_alone) (λ p.
    exact_if kind 110 (pure i.Nothing) _ nothing_more Always identity_letter
    (exact_value i.Nothing nothing_more Always identity_letter 110 refl refl tt nothing_alone) (λ q.
    exact_if kind 102 (pure i.Full) _ nothing_more Always identity_letter
    (exact_value i.Full nothing_more Always identity_letter 102 refl refl tt full_alone) (λ r.
    exact_if kind 105 (pure i.Index) (fail (Unknown kind)) nothing_more Always identity_letter
    (exact_value i.Index nothing_more Always identity_letter 105 refl refl tt index_alone)
    (λ s. exact_fail (Unknown kind) nothing_more (λ x. (identity_letter x ≡ kind) × Unit {0})
    (no_identity kind p q r s)))))

byte_of_identity : (x : ReplicaIdentity) → identity_letter x < 256
byte_of_identity i.Default = omega arith
byte_of_identity i.Nothing = omega arith
byte_of_identity i.Full = omega arith
byte_of_identity i.Index = omega arith

abbrev pub letter_of : ReplicaIdentity → List ℕ
letter_of x = int8 (identity_letter x)

pub exact_identity : Exact identity_at letter_of Always
unfolding identity_at
exact_identity = exact_as (byte >>= identity_by_letter) (λ x. (identity_letter x ∷ []) ++ [])
    (λ x. (identity_letter x < 256) × Unit {0}) letter_of Always
    (exact_then byte identity_by_letter int8 nothing_more (λ n. n < 256) Always identity_letter exact_byte
    (λ kind _. exact_identity_by kind))
    (λ x fits. (refl, tt)) (λ x fits. (byte_of_identity x, tt))

false_alone : (x : Bool) → key_flag x ≡ 0 → x ≡ false
false_alone false e = refl
false_alone true e = absurd (omega (arith, e))

true_alone : (x : Bool) → key_flag x ≡ 1 → x ≡ true
true_alone false e = absurd (omega (arith, e))
true_alone true e = refl

no_flag : (kind : ℕ) → (kind ≡ 0 → ⊥) → (kind ≡ 1 → ⊥) → (x : Bool) → (key_flag x ≡ kind) × Unit {0} → ⊥
no_flag kind p q false h = p (sym h.0)
no_flag kind p q true h = q (sym h.0)

exact_flag_by : (kind : ℕ) → Exact (flag_by kind) nothing_more (λ x. (key_flag x ≡ kind) × Unit {0})
exact_flag_by kind =
    exact_if kind 0 (pure false) _ nothing_more Always key_flag
    (exact_value false nothing_more Always key_flag 0 refl refl tt false_alone) (λ p.
    exact_if kind 1 (pure true) (fail (Unknown kind)) nothing_more Always key_flag
    (exact_value true nothing_more Always key_flag 1 refl refl tt true_alone)
    (λ q. exact_fail (Unknown kind) nothing_more (λ x. (key_flag x ≡ kind) × Unit {0}) (no_flag kind p q)))

byte_of_flag : (x : Bool) → key_flag x < 256
byte_of_flag false = omega arith
byte_of_flag true = omega arith

abbrev pub flag_of : Bool → List ℕ
flag_of x = int8 (key_flag x)

pub exact_flag : Exact key_flag_at flag_of Always
unfolding key_flag_at
exact_flag = exact_as (byte >>= flag_by) (λ x. (key_flag x ∷ []) ++ []) (λ x. (key_flag x < 256) × Unit {0}) flag_of
    Always
    (exact_then byte flag_by int8 nothing_more (λ n. n < 256) Always key_flag exact_byte (λ kind _. exact_flag_by kind))
    (λ x fits. (refl, tt)) (λ x fits. (byte_of_flag x, tt))

signed_fits : (n : ℕ) → n < 2 ^ 32 → FitsSigned w32 (cast_signed w32 n)
signed_fits n fits = sfits_to_z (Fits-of_lt fits)

unsigned_fits : (z : ℤ) → FitsSigned w32 z → cast_unsigned w32 z < 2 ^ 32
unsigned_fits z fits = Fits-lt-pow (Fits-of_z fits)

unsigned : (n : ℕ) → n < 2 ^ 32 → cast_unsigned w32 (cast_signed w32 n) ≡ n
unsigned n fits = of_z-to_z w32 n fits

abbrev pub column_fields : Type 0
column_fields = Bool × (List ℕ × (ℕ × ℕ))

abbrev pub column_of : column_fields → RelationColumn
column_of f = record { is_key = f.0; name = f.1.0; type_oid = f.1.1.0; type_modifier = cast_signed w32 f.1.1.1 }

abbrev pub FieldsFit : column_fields → Type 0
FieldsFit f = Unit {0} × (IsName f.1.0 × ((f.1.1.0 < 2 ^ 32) × (f.1.1.1 < 2 ^ 32)))

abbrev pub fields_of : column_fields → List ℕ
fields_of f = flag_of f.0 ++ (string f.1.0 ++ (int32 f.1.1.0 ++ int32 f.1.1.1))

exact_column_fields : Exact (key_flag_at & string_at & big_endian w32 & big_endian w32) fields_of FieldsFit
exact_column_fields =
    exact_both key_flag_at flag_of Always (string_at & big_endian w32 & big_endian w32)
    (λ f. string f.0 ++ (int32 f.1.0 ++ int32 f.1.1)) (λ f. IsName f.0 × ((f.1.0 < 2 ^ 32) × (f.1.1 < 2 ^ 32)))
    exact_flag
    (exact_both string_at string IsName (big_endian w32 & big_endian w32) (λ f. int32 f.0 ++ int32 f.1)
    (λ f. (f.0 < 2 ^ 32) × (f.1 < 2 ^ 32)) exact_string
    (exact_both (big_endian w32) int32 (λ n. n < 2 ^ 32) (big_endian w32) int32
    (λ n. n < 2 ^ 32) exact_int32 exact_int32))

pub column_made : (f : column_fields) → FieldsFit f
    → (fields_of f ≡ column_spelling (column_of f)) × IsColumn (column_of f)
column_made f fits = (
  ap (λ (n : ℕ). flag_of f.0 ++ (string f.1.0 ++ (int32 f.1.1.0 ++ int32 n))) (sym (unsigned f.1.1.1 fits.1.1.1)),
  record { name = fits.1.0; type_oid = fits.1.1.0; type_modifier = signed_fits f.1.1.1 fits.1.1.1 },
)

column_back : (x : RelationColumn) → IsColumn x → (f : column_fields) × ((column_of f ≡ x) × FieldsFit f)
column_back x fits =
    let modifier : ℕ = cast_unsigned w32 x.type_modifier in
    let f : column_fields = (x.is_key, (x.name, (x.type_oid, modifier))) in (
      f,
      (
        ap (λ (z : ℤ). let y : RelationColumn =
            record { is_key = x.is_key; name = x.name; type_oid = x.type_oid; type_modifier = z } in y)
            (to_z-of_z fits.type_modifier),
        (tt, (fits.name, (fits.type_oid, unsigned_fits x.type_modifier fits.type_modifier))),
      ),
    )

pub exact_column : Exact column_at column_spelling IsColumn
unfolding column_at
exact_column = exact_mapped (key_flag_at & string_at & big_endian w32 & big_endian w32) fields_of FieldsFit column_of
    column_spelling IsColumn exact_column_fields column_made column_back

pub exact_columns : Exact relation_columns_at columns_spelling
    (λ columns. (length columns < 2 ^ 15) × All IsColumn columns)
unfolding relation_columns_at
exact_columns = exact_then count16 (many column_at) int16 (flat_map column_spelling) (λ n. n < 2 ^ 15) (All IsColumn)
    length exact_count16
    (λ n _. many_all column_at column_spelling IsColumn exact_column n)

abbrev pub relation_fields : Type 0
relation_fields = ℕ × (List ℕ × (List ℕ × (ReplicaIdentity × List RelationColumn)))

abbrev pub relation_of : relation_fields → Relation
relation_of f = record { oid = f.0; namespace = f.1.0; name = f.1.1.0; identity = f.1.1.1.0; columns = f.1.1.1.1 }

abbrev pub RelationFits : relation_fields → Type 0
RelationFits f = (f.0 < 2 ^ 32)
    × (IsName f.1.0 × (IsName f.1.1.0 × (Unit {0} × ((length f.1.1.1.1 < 2 ^ 15) × All IsColumn f.1.1.1.1))))

abbrev pub relation_parts : relation_fields → List ℕ
relation_parts f = int32 f.0
    ++ (string f.1.0 ++ (string f.1.1.0 ++ (letter_of f.1.1.1.0 ++ columns_spelling f.1.1.1.1)))

pub exact_relation_fields : Exact
    (big_endian w32 & string_at & string_at & identity_at & relation_columns_at) relation_parts
    RelationFits
exact_relation_fields =
    exact_both (big_endian w32) int32 (λ n. n < 2 ^ 32) (string_at & string_at & identity_at & relation_columns_at)
    (λ f. string f.0 ++ (string f.1.0 ++ (letter_of f.1.1.0 ++ columns_spelling f.1.1.1)))
    (λ f. IsName f.0 × (IsName f.1.0 × (Unit {0} × ((length f.1.1.1 < 2 ^ 15) × All IsColumn f.1.1.1)))) exact_int32
    (exact_both string_at string IsName (string_at & identity_at & relation_columns_at)
    (λ f. string f.0 ++ (letter_of f.1.0 ++ columns_spelling f.1.1))
    (λ f. IsName f.0 × (Unit {0} × ((length f.1.1 < 2 ^ 15) × All IsColumn f.1.1))) exact_string
    (exact_both string_at string IsName (identity_at & relation_columns_at)
    (λ f. letter_of f.0 ++ columns_spelling f.1) (λ f. Unit {0} × ((length f.1 < 2 ^ 15) × All IsColumn f.1))
    exact_string
    (exact_both identity_at letter_of Always relation_columns_at columns_spelling
    (λ columns. (length columns < 2 ^ 15) × All IsColumn columns) exact_identity exact_columns)))

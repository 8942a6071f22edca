-- Messages are read as they are spelled.
use Rattle.std.proofs.Common.{◌≡◌, ℕ, ◌^◌, ◌<◌, List, [], ◌∷◌, ◌++◌, length, drop, All, Option, Some, None, refl, sym, ap, subst, arith}
use Rattle.std.specs.Int.{w32, w64}
use Rattle.std.specs.List.{flat_map}
use Rattle.pgoutput_msgs.specs.declared.error.MsgError.TheVariants.{Unknown}
use Rattle.pgoutput_msgs.specs.declared.message.Msg.{Msg}
use Rattle.pgoutput_msgs.specs.declared.message.Msg.TheVariants as m
use Rattle.pgoutput_msgs.specs.declared.tuple.Cell.{Cell}
use Rattle.pgoutput_msgs.specs.declared.tuple.OldTuple.{OldTuple}
use Rattle.pgoutput_msgs.specs.declared.tuple.OldTuple.TheVariants.{Key, Full}
use Rattle.pgoutput_msgs.specs.Ranges.{IsTuple, IsOld, IsMaybeOld, IsOid, IsMessage}
use Rattle.pgoutput_msgs.specs.Reading.{fail, ◌>>=◌, mapped, ◌&◌, many, byte, big_endian, count32, string_at, tuple_at, old_by, new_at, identity_at, relation_columns_at, begin_at, commit_by, commit_at, relation_at, insert_at, rows_by, update_at, delete_at, truncate_at, message_by, message_at}
use Rattle.pgoutput_msgs.specs.Spelling.{int8, int32, int64, tuple_spelling, old_spelling, maybe_old_spelling, new_spelling, msg_letter, fields_spelling, spelling_of}
use Rattle.pgoutput_msgs.proofs.Exact.{Exact, exact_then, exact_as, exact_fail, exact_if, exact_mapped, exact_both}
use Rattle.pgoutput_msgs.proofs.Fields.{exact_byte, exact_int32, exact_int64, exact_count32}
use Rattle.pgoutput_msgs.proofs.RelationRules.{relation_fields, relation_of, RelationFits, relation_parts, exact_relation_fields}
use Rattle.pgoutput_msgs.proofs.TupleRules.{many_all, old_letter, old_rest, exact_old_by, old_is, byte_of_old, exact_old, exact_new, exact_tuple}

-- ---- messages, after their letter

abbrev pub Is : ℕ → Msg → Type 0
Is first message = (msg_letter message ≡ first) × IsMessage message

abbrev pub three : (ℕ × (ℕ × ℕ)) → List ℕ
three f = int64 f.0 ++ (int64 f.1.0 ++ int64 f.1.1)

begin_back : (x : Msg) → Is 66 x → (f : ℕ × (ℕ × ℕ))
    × ((m.Begin f.0 f.1.0 f.1.1 ≡ x) × ((f.0 < 2 ^ 64) × ((f.1.0 < 2 ^ 64) × (f.1.1 < 2 ^ 32))))
begin_back (m.Begin a b c) h = ((a, (b, c)), (refl, h.1))
begin_back (m.Commit a b c) h = absurd (omega (arith, h.0))
begin_back (m.Relation a) h = absurd (omega (arith, h.0))
begin_back (m.Insert a b) h = absurd (omega (arith, h.0))
begin_back (m.Update a b c) h = absurd (omega (arith, h.0))
begin_back (m.Delete a b) h = absurd (omega (arith, h.0))
begin_back (m.Truncate a b) h = absurd (omega (arith, h.0))

exact_begin : Exact begin_at fields_spelling (Is 66)
unfolding begin_at
exact_begin =
    exact_mapped (big_endian w64 & big_endian w64 & big_endian w32) (λ f. int64 f.0 ++ (int64 f.1.0 ++ int32 f.1.1))
    (λ f. (f.0 < 2 ^ 64) × ((f.1.0 < 2 ^ 64) × (f.1.1 < 2 ^ 32)))
    (λ f. m.Begin f.0 f.1.0 f.1.1) fields_spelling (Is 66)
    (exact_both (big_endian w64) int64 (λ n. n < 2 ^ 64) (big_endian w64 & big_endian w32) (λ f. int64 f.0 ++ int32 f.1)
    (λ f. (f.0 < 2 ^ 64) × (f.1 < 2 ^ 32)) exact_int64
    (exact_both (big_endian w64) int64 (λ n. n < 2 ^ 64) (big_endian w32) int32
    (λ n. n < 2 ^ 32) exact_int64 exact_int32)) (λ f fits. (refl, (refl, fits))) begin_back

abbrev pub no_flags : Msg → ℕ
no_flags message = 0

commit_back : (x : Msg) → (no_flags x ≡ 0) × Is 67 x → (f : ℕ × (ℕ × ℕ))
    × ((m.Commit f.0 f.1.0 f.1.1 ≡ x) × ((f.0 < 2 ^ 64) × ((f.1.0 < 2 ^ 64) × (f.1.1 < 2 ^ 64))))
commit_back (m.Begin a b c) h = absurd (omega (arith, h.1.0))
commit_back (m.Commit a b c) h = ((a, (b, c)), (refl, h.1.1))
commit_back (m.Relation a) h = absurd (omega (arith, h.1.0))
commit_back (m.Insert a b) h = absurd (omega (arith, h.1.0))
commit_back (m.Update a b c) h = absurd (omega (arith, h.1.0))
commit_back (m.Delete a b) h = absurd (omega (arith, h.1.0))
commit_back (m.Truncate a b) h = absurd (omega (arith, h.1.0))

-- the fields of a commit after its flags
abbrev pub commit_rest : Msg → List ℕ
commit_rest message = drop 1 (fields_spelling message)

exact_commit_by : (flags : ℕ) → Exact (commit_by flags) commit_rest (λ x. (no_flags x ≡ flags) × Is 67 x)
exact_commit_by flags =
    exact_if flags 0 (mapped (λ f. m.Commit f.0 f.1.0 f.1.1) (big_endian w64 & big_endian w64 & big_endian w64))
    (fail (Unknown flags)) commit_rest (Is 67) no_flags
    (exact_mapped (big_endian w64 & big_endian w64 & big_endian w64) three
    (λ f. (f.0 < 2 ^ 64) × ((f.1.0 < 2 ^ 64) × (f.1.1 < 2 ^ 64)))
    (λ f. m.Commit f.0 f.1.0 f.1.1) commit_rest (λ x. (no_flags x ≡ 0) × Is 67 x)
    (exact_both (big_endian w64) int64 (λ n. n < 2 ^ 64) (big_endian w64 & big_endian w64) (λ f. int64 f.0 ++ int64 f.1)
    (λ f. (f.0 < 2 ^ 64) × (f.1 < 2 ^ 64)) exact_int64
    (exact_both (big_endian w64) int64 (λ n. n < 2 ^ 64) (big_endian w64) int64
    (λ n. n < 2 ^ 64) exact_int64 exact_int64)) (λ f fits. (refl, (refl, (refl, fits)))) commit_back)
    (λ p. exact_fail (Unknown flags) commit_rest (λ x. (no_flags x ≡ flags) × Is 67 x) (λ x h. p (sym h.0)))

pub commit_is : (x : Msg) → Is 67 x → 0 ∷ commit_rest x ≡ fields_spelling x
commit_is (m.Begin a b c) h = absurd (omega (arith, h.0))
commit_is (m.Commit a b c) h = refl
commit_is (m.Relation a) h = absurd (omega (arith, h.0))
commit_is (m.Insert a b) h = absurd (omega (arith, h.0))
commit_is (m.Update a b c) h = absurd (omega (arith, h.0))
commit_is (m.Delete a b) h = absurd (omega (arith, h.0))
commit_is (m.Truncate a b) h = absurd (omega (arith, h.0))

exact_commit : Exact commit_at fields_spelling (Is 67)
unfolding commit_at
exact_commit = exact_as (byte >>= commit_by) (λ x. (0 ∷ []) ++ commit_rest x) (λ x. (0 < 256) × Is 67 x)
    fields_spelling (Is 67)
    (exact_then byte commit_by int8 commit_rest (λ n. n < 256) (Is 67) no_flags exact_byte
    (λ flags _. exact_commit_by flags))
    (λ x fits. (commit_is x fits.1, fits.1)) (λ x fits. (omega arith, fits))

relation_back : (x : Msg) → Is 82 x → (f : relation_fields) × ((m.Relation (relation_of f) ≡ x) × RelationFits f)
relation_back (m.Begin a b c) h = absurd (omega (arith, h.0))
relation_back (m.Commit a b c) h = absurd (omega (arith, h.0))
relation_back (m.Relation a) h = (
  (a.oid, (a.namespace, (a.name, (a.identity, a.columns)))),
  (refl, (h.1.oid, (h.1.namespace, (h.1.name, (tt, (h.1.few, h.1.columns)))))),
)
relation_back (m.Insert a b) h = absurd (omega (arith, h.0))
relation_back (m.Update a b c) h = absurd (omega (arith, h.0))
relation_back (m.Delete a b) h = absurd (omega (arith, h.0))
relation_back (m.Truncate a b) h = absurd (omega (arith, h.0))

exact_relation : Exact relation_at fields_spelling (Is 82)
unfolding relation_at
exact_relation =
    exact_mapped
    (big_endian w32 & string_at & string_at & identity_at & relation_columns_at) relation_parts RelationFits
    (λ f. m.Relation (relation_of f)) fields_spelling (Is 82) exact_relation_fields
    (λ f fits. (
      refl,
      (
        refl,
        record {
          oid = fits.0;
          namespace = fits.1.0;
          name = fits.1.1.0;
          few = fits.1.1.1.1.0;
          columns =
              fits.1.1.1.1.1;
        },
      ),
    )) relation_back

insert_back : (x : Msg) → Is 73 x → (f : ℕ × List Cell) × ((m.Insert f.0 f.1 ≡ x) × ((f.0 < 2 ^ 32) × IsTuple f.1))
insert_back (m.Begin a b c) h = absurd (omega (arith, h.0))
insert_back (m.Commit a b c) h = absurd (omega (arith, h.0))
insert_back (m.Relation a) h = absurd (omega (arith, h.0))
insert_back (m.Insert a b) h = ((a, b), (refl, h.1))
insert_back (m.Update a b c) h = absurd (omega (arith, h.0))
insert_back (m.Delete a b) h = absurd (omega (arith, h.0))
insert_back (m.Truncate a b) h = absurd (omega (arith, h.0))

exact_insert : Exact insert_at fields_spelling (Is 73)
unfolding insert_at
exact_insert =
    exact_mapped (big_endian w32 & new_at) (λ f. int32 f.0 ++ new_spelling f.1) (λ f. (f.0 < 2 ^ 32) × IsTuple f.1)
    (λ f. m.Insert f.0 f.1) fields_spelling (Is 73)
    (exact_both (big_endian w32) int32 (λ n. n < 2 ^ 32) new_at new_spelling IsTuple exact_int32 exact_new)
    (λ f fits. (refl, (refl, fits))) insert_back

-- what is sent of an old row, if anything, and a new row
abbrev pub Rows : Type 0
Rows = Option OldTuple × List Cell

abbrev pub rows_letter : Rows → ℕ
rows_letter (None, new) = 78
rows_letter (Some old, new) = old_letter old

abbrev pub rows_rest : Rows → List ℕ
rows_rest (None, new) = tuple_spelling new
rows_rest (Some old, new) = old_rest old ++ new_spelling new

abbrev pub rows_spelling : Rows → List ℕ
rows_spelling f = maybe_old_spelling f.0 ++ new_spelling f.1

abbrev pub AreRows : Rows → Type 0
AreRows f = IsMaybeOld f.0 × IsTuple f.1

old_letter_apart : (o : OldTuple) → old_letter o ≡ 78 → ⊥
old_letter_apart (Key tuple) e = omega (arith, e)
old_letter_apart (Full tuple) e = omega (arith, e)

alone_back : (f : Rows) → (rows_letter f ≡ 78) × AreRows f → (new : List Cell)
    × ((let rows : Rows = (None, new) in rows ≡ f) × IsTuple new)
alone_back (None, new) h = (new, (refl, h.1.1))
alone_back (Some old, new) h = absurd (old_letter_apart old h.0)

both_back : (kind : ℕ) → (kind ≡ 78 → ⊥) → (f : Rows) → (rows_letter f ≡ kind) × AreRows f
    → (p : OldTuple × List Cell)
    × ((let rows : Rows = (Some p.0, p.1) in rows ≡ f) × (((old_letter p.0 ≡ kind) × IsOld p.0) × IsTuple p.1))
both_back kind apart (None, new) h = absurd (apart (sym h.0))
both_back kind apart (Some old, new) h = ((old, new), (refl, ((h.0, h.1.0), h.1.1)))

exact_rows_by : (kind : ℕ) → Exact (rows_by kind) rows_rest (λ f. (rows_letter f ≡ kind) × AreRows f)
exact_rows_by kind =
    exact_if kind 78 (mapped (λ new. (None, new)) tuple_at) (mapped (λ f. (Some f.0, f.1)) (old_by kind & new_at))
    rows_rest AreRows rows_letter
    (exact_mapped tuple_at tuple_spelling IsTuple (λ new. (None, new)) rows_rest
    (λ f. (rows_letter f ≡ 78) × AreRows f) exact_tuple (λ new fits. (refl, (refl, (tt, fits)))) alone_back)
    (λ apart. exact_mapped (old_by kind & new_at) (λ f. old_rest f.0 ++ new_spelling f.1)
    (λ f. ((old_letter f.0 ≡ kind) × IsOld f.0) × IsTuple f.1)
    (λ f. (Some f.0, f.1)) rows_rest (λ f. (rows_letter f ≡ kind) × AreRows f)
    (exact_both (old_by kind) old_rest (λ o. (old_letter o ≡ kind) × IsOld o) new_at new_spelling IsTuple
    (exact_old_by kind) exact_new)
    (λ f fits. (refl, (fits.0.0, (fits.0.1, fits.1)))) (both_back kind apart))

pub rows_is : (f : Rows) → rows_letter f ∷ rows_rest f ≡ rows_spelling f
rows_is (None, new) = refl
rows_is (Some old, new) = ap (λ (x : List ℕ). x ++ new_spelling new) (old_is old)

byte_of_rows : (f : Rows) → rows_letter f < 256
byte_of_rows (None, new) = omega arith
byte_of_rows (Some old, new) = byte_of_old old

exact_rows : Exact (byte >>= rows_by) rows_spelling AreRows
exact_rows = exact_as (byte >>= rows_by) (λ f. (rows_letter f ∷ []) ++ rows_rest f)
    (λ f. (rows_letter f < 256) × AreRows f) rows_spelling AreRows
    (exact_then byte rows_by int8 rows_rest (λ n. n < 256) AreRows rows_letter exact_byte
    (λ kind _. exact_rows_by kind))
    (λ f fits. (rows_is f, fits.1)) (λ f fits. (byte_of_rows f, fits))

update_back : (x : Msg) → Is 85 x → (f : ℕ × Rows) × ((m.Update f.0 f.1.0 f.1.1 ≡ x) × ((f.0 < 2 ^ 32) × AreRows f.1))
update_back (m.Begin a b c) h = absurd (omega (arith, h.0))
update_back (m.Commit a b c) h = absurd (omega (arith, h.0))
update_back (m.Relation a) h = absurd (omega (arith, h.0))
update_back (m.Insert a b) h = absurd (omega (arith, h.0))
update_back (m.Update a b c) h = ((a, (b, c)), (refl, h.1))
update_back (m.Delete a b) h = absurd (omega (arith, h.0))
update_back (m.Truncate a b) h = absurd (omega (arith, h.0))

exact_update : Exact update_at fields_spelling (Is 85)
unfolding update_at
exact_update =
    exact_mapped (big_endian w32 & (byte >>= rows_by)) (λ f. int32 f.0 ++ rows_spelling f.1)
    (λ f. (f.0 < 2 ^ 32) × AreRows f.1) (λ f. m.Update f.0 f.1.0 f.1.1) fields_spelling (Is 85)
    (exact_both (big_endian w32) int32 (λ n. n < 2 ^ 32)
    (byte >>= rows_by) rows_spelling AreRows exact_int32 exact_rows) (λ f fits. (refl, (refl, fits))) update_back

delete_back : (x : Msg) → Is 68 x → (f : ℕ × OldTuple) × ((m.Delete f.0 f.1 ≡ x) × ((f.0 < 2 ^ 32) × IsOld f.1))
delete_back (m.Begin a b c) h = absurd (omega (arith, h.0))
delete_back (m.Commit a b c) h = absurd (omega (arith, h.0))
delete_back (m.Relation a) h = absurd (omega (arith, h.0))
delete_back (m.Insert a b) h = absurd (omega (arith, h.0))
delete_back (m.Update a b c) h = absurd (omega (arith, h.0))
delete_back (m.Delete a b) h = ((a, b), (refl, h.1))
delete_back (m.Truncate a b) h = absurd (omega (arith, h.0))

exact_delete : Exact delete_at fields_spelling (Is 68)
unfolding delete_at
exact_delete =
    exact_mapped (big_endian w32 & (byte >>= old_by)) (λ f. int32 f.0 ++ old_spelling f.1)
    (λ f. (f.0 < 2 ^ 32) × IsOld f.1) (λ f. m.Delete f.0 f.1) fields_spelling (Is 68)
    (exact_both (big_endian w32) int32 (λ n. n < 2 ^ 32) (byte >>= old_by) old_spelling IsOld exact_int32 exact_old)
    (λ f fits. (refl, (refl, fits))) delete_back

-- how many tables a message empties
abbrev pub tables_of : Msg → ℕ
tables_of (m.Truncate options relations) = length relations
tables_of _ = 0

abbrev pub truncate_rest : Msg → List ℕ
truncate_rest (m.Truncate options relations) = int8 options ++ flat_map int32 relations
truncate_rest _ = []

truncate_back : (n : ℕ) (x : Msg) → (tables_of x ≡ n) × Is 84 x → (f : ℕ × List ℕ)
    × ((m.Truncate f.0 f.1 ≡ x) × ((f.0 < 256) × ((length f.1 ≡ n) × All IsOid f.1)))
truncate_back n (m.Begin a b c) h = absurd (omega (arith, h.1.0))
truncate_back n (m.Commit a b c) h = absurd (omega (arith, h.1.0))
truncate_back n (m.Relation a) h = absurd (omega (arith, h.1.0))
truncate_back n (m.Insert a b) h = absurd (omega (arith, h.1.0))
truncate_back n (m.Update a b c) h = absurd (omega (arith, h.1.0))
truncate_back n (m.Delete a b) h = absurd (omega (arith, h.1.0))
truncate_back n (m.Truncate a b) h = ((a, b), (refl, (h.1.1.1.0, (h.0, h.1.1.1.1))))

exact_truncate_by : (n : ℕ) → n < 2 ^ 31
    → Exact (mapped (λ f. m.Truncate f.0 f.1) (byte & many (big_endian w32) n)) truncate_rest
    (λ x. (tables_of x ≡ n) × Is 84 x)
exact_truncate_by n few =
    exact_mapped (byte & many (big_endian w32) n) (λ f. int8 f.0 ++ flat_map int32 f.1)
    (λ f. (f.0 < 256) × ((length f.1 ≡ n) × All IsOid f.1)) (λ f. m.Truncate f.0 f.1)
    truncate_rest (λ x. (tables_of x ≡ n) × Is 84 x)
    (exact_both byte int8 (λ b. b < 256) (many (big_endian w32) n) (flat_map int32)
    (λ all. (length all ≡ n) × All IsOid all) exact_byte
    (many_all (big_endian w32) int32 IsOid exact_int32 n))
    (λ f fits. (refl, (fits.1.0, (refl, (subst (λ (k : ℕ). k < 2 ^ 31) (sym fits.1.0) few, (fits.0, fits.1.1))))))
    (truncate_back n)

pub truncate_is : (x : Msg) → Is 84 x → int32 (tables_of x) ++ truncate_rest x ≡ fields_spelling x
truncate_is (m.Begin a b c) h = absurd (omega (arith, h.0))
truncate_is (m.Commit a b c) h = absurd (omega (arith, h.0))
truncate_is (m.Relation a) h = absurd (omega (arith, h.0))
truncate_is (m.Insert a b) h = absurd (omega (arith, h.0))
truncate_is (m.Update a b c) h = absurd (omega (arith, h.0))
truncate_is (m.Delete a b) h = absurd (omega (arith, h.0))
truncate_is (m.Truncate a b) h = refl

few_tables : (x : Msg) → Is 84 x → tables_of x < 2 ^ 31
few_tables (m.Begin a b c) h = omega arith
few_tables (m.Commit a b c) h = omega arith
few_tables (m.Relation a) h = omega arith
few_tables (m.Insert a b) h = omega arith
few_tables (m.Update a b c) h = omega arith
few_tables (m.Delete a b) h = omega arith
few_tables (m.Truncate a b) h = h.1.0

exact_truncate : Exact truncate_at fields_spelling (Is 84)
unfolding truncate_at
exact_truncate = exact_as (count32 >>= (λ n. mapped (λ f. m.Truncate f.0 f.1) (byte & many (big_endian w32) n)))
    (λ x. int32 (tables_of x) ++ truncate_rest x) (λ x. (tables_of x < 2 ^ 31) × Is 84 x) fields_spelling (Is 84)
    (exact_then count32 (λ n. mapped (λ f. m.Truncate f.0 f.1) (byte & many (big_endian w32) n)) int32 truncate_rest
    (λ n. n < 2 ^ 31) (Is 84) tables_of exact_count32 exact_truncate_by)
    (λ x fits. (truncate_is x fits.1, fits.1)) (λ x fits. (few_tables x fits, fits))

-- ---- messages

no_message : (kind : ℕ) → (kind ≡ 66 → ⊥) → (kind ≡ 67 → ⊥) → (kind ≡ 82 → ⊥) → (kind ≡ 73 → ⊥) → (kind ≡ 85 → ⊥)
    → (kind ≡ 68 → ⊥) → (kind ≡ 84 → ⊥) → (x : Msg) → Is kind x → ⊥
no_message kind p q r s t u v (m.Begin a b c) h = p (sym h.0)
no_message kind p q r s t u v (m.Commit a b c) h = q (sym h.0)
no_message kind p q r s t u v (m.Relation a) h = r (sym h.0)
no_message kind p q r s t u v (m.Insert a b) h = s (sym h.0)
no_message kind p q r s t u v (m.Update a b c) h = t (sym h.0)
no_message kind p q r s t u v (m.Delete a b) h = u (sym h.0)
no_message kind p q r s t u v (m.Truncate a b) h = v (sym h.0)

exact_message_by : (kind : ℕ) → Exact (message_by kind) fields_spelling (Is kind)
exact_message_by kind =
    exact_if kind 66 begin_at _ fields_spelling IsMessage msg_letter exact_begin (λ p.
    exact_if kind 67 commit_at _ fields_spelling IsMessage msg_letter exact_commit (λ q.
    exact_if kind 82 relation_at _ fields_spelling IsMessage msg_letter exact_relation (λ r.
    exact_if kind 73 insert_at _ fields_spelling IsMessage msg_letter exact_insert (λ s.
    exact_if kind 85 update_at _ fields_spelling IsMessage msg_letter exact_update (λ t.
    exact_if kind 68 delete_at _ fields_spelling IsMessage msg_letter exact_delete (λ u.
    exact_if kind 84 truncate_at (fail (Unknown kind)) fields_spelling IsMessage msg_letter exact_truncate
    (λ v. exact_fail (Unknown kind) fields_spelling (Is kind) (no_message kind p q r s t u v))))))))

byte_of_message : (x : Msg) → msg_letter x < 256
byte_of_message (m.Begin a b c) = omega arith
byte_of_message (m.Commit a b c) = omega arith
byte_of_message (m.Relation a) = omega arith
byte_of_message (m.Insert a b) = omega arith
byte_of_message (m.Update a b c) = omega arith
byte_of_message (m.Delete a b) = omega arith
byte_of_message (m.Truncate a b) = omega arith

pub exact_message : Exact message_at spelling_of IsMessage
unfolding message_at
exact_message = exact_as (byte >>= message_by) (λ x. (msg_letter x ∷ []) ++ fields_spelling x)
    (λ x. (msg_letter x < 256) × IsMessage x) spelling_of IsMessage
    (exact_then byte message_by int8 fields_spelling (λ n. n < 256) IsMessage msg_letter exact_byte
    (λ kind _. exact_message_by kind))
    (λ x fits. (refl, fits.1)) (λ x fits. (byte_of_message x, fits))

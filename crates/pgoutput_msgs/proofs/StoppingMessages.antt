-- Where messages are not read.
use Rattle.std.proofs.Common.{◌≡◌, ℕ, ◌^◌, ◌<◌, List, ◌∷◌, ◌++◌, length, All, Some, None, refl, sym, ap, subst, arith, inl, inr}
use Rattle.std.specs.Int.{w32, w64}
use Rattle.std.specs.List.{flat_map}
use Rattle.pgoutput_msgs.specs.declared.error.MsgError.TheVariants.{Unknown}
use Rattle.pgoutput_msgs.specs.declared.message.Msg.{Msg}
use Rattle.pgoutput_msgs.specs.declared.message.Msg.TheVariants as m
use Rattle.pgoutput_msgs.specs.declared.tuple.Cell.{Cell}
use Rattle.pgoutput_msgs.specs.declared.tuple.OldTuple.{OldTuple}
use Rattle.pgoutput_msgs.specs.Ranges.{IsTuple, IsOld, IsOid, IsMessage}
use Rattle.pgoutput_msgs.specs.Reading.{Outcome, Rule, and_then, pure, fail, ◌>>=◌, mapped, ◌&◌, many, byte, big_endian, count32, string_at, tuple_at, old_by, new_at, identity_at, relation_columns_at, begin_at, commit_by, commit_at, relation_at, insert_at, rows_by, update_at, delete_at, truncate_at, message_by, message_at}
use Rattle.pgoutput_msgs.specs.Spelling.{int8, int32, int64, tuple_spelling, old_spelling, new_spelling, msg_letter, fields_spelling, spelling_of}
use Rattle.pgoutput_msgs.proofs.Fields.{exact_byte, exact_int32, exact_int64, exact_count32}
use Rattle.pgoutput_msgs.proofs.Messages.{Is, three, Rows, rows_letter, rows_rest, rows_spelling, rows_is, AreRows, no_flags, commit_rest, commit_is, tables_of, truncate_rest, truncate_is}
use Rattle.pgoutput_msgs.proofs.RelationRules.{relation_of, relation_parts, RelationFits}
use Rattle.pgoutput_msgs.proofs.Stopping.{Halts, Branch, unknown, branch_if, halts_then, halts_mapped, halts_as, halts_both, halts_letter}
use Rattle.pgoutput_msgs.proofs.StoppingFields.{halts_byte, halts_number, halts_count32}
use Rattle.pgoutput_msgs.proofs.StoppingRows.{halts_all, halts_tuple, halts_int32, old_branch, halts_old, halts_new, halts_relation_fields}
use Rattle.pgoutput_msgs.proofs.TupleRules.{exact_old_by, old_letter, old_rest}

halts_int64 : Halts (big_endian w64) int64 (λ n. n < 2 ^ 64)
halts_int64 = halts_number w64 (λ n. n < 2 ^ 64) (omega arith)

halts_begin : Halts begin_at fields_spelling (Is 66)
unfolding begin_at
halts_begin =
    halts_mapped (big_endian w64 & big_endian w64 & big_endian w32) (λ f. int64 f.0 ++ (int64 f.1.0 ++ int32 f.1.1))
    (λ f. (f.0 < 2 ^ 64) × ((f.1.0 < 2 ^ 64) × (f.1.1 < 2 ^ 32)))
    (λ f. m.Begin f.0 f.1.0 f.1.1) fields_spelling (Is 66)
    (halts_both (big_endian w64) int64 (λ n. n < 2 ^ 64) (big_endian w64 & big_endian w32) (λ f. int64 f.0 ++ int32 f.1)
    (λ f. (f.0 < 2 ^ 64) × (f.1 < 2 ^ 32)) exact_int64 halts_int64
    (halts_both (big_endian w64) int64 (λ n. n < 2 ^ 64) (big_endian w32) int32
    (λ n. n < 2 ^ 32) exact_int64 halts_int64 halts_int32)) (λ f fits. (refl, (refl, fits)))

commit_branch : (flags : ℕ) → Branch (commit_by flags) flags commit_rest (Is 67) no_flags
commit_branch flags =
    branch_if flags 0 (mapped (λ f. m.Commit f.0 f.1.0 f.1.1) (big_endian w64 & big_endian w64 & big_endian w64))
    (fail (Unknown flags)) commit_rest (Is 67) no_flags
    (inl (halts_mapped (big_endian w64 & big_endian w64 & big_endian w64) three
    (λ f. (f.0 < 2 ^ 64) × ((f.1.0 < 2 ^ 64) × (f.1.1 < 2 ^ 64)))
    (λ f. m.Commit f.0 f.1.0 f.1.1) commit_rest (λ x. (no_flags x ≡ 0) × Is 67 x)
    (halts_both (big_endian w64) int64 (λ n. n < 2 ^ 64) (big_endian w64 & big_endian w64) (λ f. int64 f.0 ++ int64 f.1)
    (λ f. (f.0 < 2 ^ 64) × (f.1 < 2 ^ 64)) exact_int64 halts_int64
    (halts_both (big_endian w64) int64 (λ n. n < 2 ^ 64) (big_endian w64) int64
    (λ n. n < 2 ^ 64) exact_int64 halts_int64 halts_int64)) (λ f fits. (refl, (refl, (refl, fits))))))
    (unknown flags commit_rest (Is 67) no_flags)

a_commit : Msg
a_commit = m.Commit 0 0 0

halts_commit : Halts commit_at fields_spelling (Is 67)
unfolding commit_at a_commit
halts_commit = halts_as (byte >>= commit_by) (λ x. no_flags x ∷ commit_rest x) (Is 67) fields_spelling (Is 67)
    (halts_letter commit_by commit_rest (Is 67) no_flags a_commit (refl, (omega arith, (omega arith, omega arith)))
    commit_branch)
    (λ x fits. (commit_is x fits, fits))

halts_relation : Halts relation_at fields_spelling (Is 82)
unfolding relation_at
halts_relation =
    halts_mapped
    (big_endian w32 & string_at & string_at & identity_at & relation_columns_at) relation_parts RelationFits
    (λ f. m.Relation (relation_of f)) fields_spelling (Is 82) halts_relation_fields
    (λ f fits. (
      refl,
      (
        refl,
        record {
          oid = fits.0;
          namespace = fits.1.0;
          name = fits.1.1.0;
          few = fits.1.1.1.1.0;
          columns = fits.1.1.1.1.1;
        },
      ),
    ))

halts_insert : Halts insert_at fields_spelling (Is 73)
unfolding insert_at
halts_insert =
    halts_mapped (big_endian w32 & new_at) (λ f. int32 f.0 ++ new_spelling f.1) (λ f. (f.0 < 2 ^ 32) × IsTuple f.1)
    (λ f. m.Insert f.0 f.1) fields_spelling (Is 73)
    (halts_both (big_endian w32) int32 (λ n. n < 2 ^ 32) new_at new_spelling IsTuple exact_int32 halts_int32 halts_new)
    (λ f fits. (refl, (refl, fits)))

abbrev RowsBy : ℕ → Rows → Type 0
RowsBy kind f = (rows_letter f ≡ kind) × AreRows f

-- an old row of this letter, and a new one
both_rows : (kind : ℕ) → Halts (old_by kind) old_rest (λ o. (old_letter o ≡ kind) × IsOld o)
    → Halts (mapped (λ f. (Some f.0, f.1)) (old_by kind & new_at)) rows_rest (RowsBy kind)
both_rows kind halts =
    halts_mapped (old_by kind & new_at) (λ f. old_rest f.0 ++ new_spelling f.1)
    (λ f. ((old_letter f.0 ≡ kind) × IsOld f.0) × IsTuple f.1)
    (λ f. (Some f.0, f.1)) rows_rest (RowsBy kind)
    (halts_both (old_by kind) old_rest (λ o. (old_letter o ≡ kind) × IsOld o) new_at new_spelling IsTuple
    (exact_old_by kind) halts halts_new)
    (λ f fits. (refl, (fits.0.0, (fits.0.1, fits.1))))

both_branch : (kind : ℕ) → Branch (old_by kind) kind old_rest IsOld old_letter
    → Branch (mapped (λ f. (Some f.0, f.1)) (old_by kind & new_at)) kind rows_rest AreRows rows_letter
both_branch kind (inl halts) = inl (both_rows kind halts)
both_branch kind (inr refuses) = inr (record {
  fault = refuses.fault;
  is_bad = refuses.is_bad;
  always = λ bytes.
      let pair : OldTuple → Rule (OldTuple × List Cell) = λ old. mapped (λ new. (old, new)) new_at in
      let rows : OldTuple × List Cell → Rule Rows = λ f. pure (Some f.0, f.1) in
      ap (λ (outcome : Outcome OldTuple). and_then (and_then outcome pair) rows) (refuses.always bytes);
})

rows_branch : (kind : ℕ) → Branch (rows_by kind) kind rows_rest AreRows rows_letter
rows_branch kind =
    branch_if kind 78 (mapped (λ new. (None, new)) tuple_at) (mapped (λ f. (Some f.0, f.1)) (old_by kind & new_at))
    rows_rest AreRows rows_letter
    (inl (halts_mapped tuple_at tuple_spelling IsTuple (λ new. (None, new)) rows_rest (RowsBy 78) halts_tuple
    (λ new fits. (refl, (refl, (tt, fits))))))
    (both_branch kind (old_branch kind))

halts_rows : Halts (byte >>= rows_by) rows_spelling AreRows
halts_rows = halts_as (byte >>= rows_by) (λ f. rows_letter f ∷ rows_rest f) AreRows rows_spelling AreRows
    (halts_letter rows_by rows_rest AreRows rows_letter (None, halts_tuple.value) (tt, halts_tuple.fits) rows_branch)
    (λ f fits. (rows_is f, fits))

halts_update : Halts update_at fields_spelling (Is 85)
unfolding update_at
halts_update =
    halts_mapped (big_endian w32 & (byte >>= rows_by)) (λ f. int32 f.0 ++ rows_spelling f.1)
    (λ f. (f.0 < 2 ^ 32) × AreRows f.1) (λ f. m.Update f.0 f.1.0 f.1.1) fields_spelling (Is 85)
    (halts_both (big_endian w32) int32 (λ n. n < 2 ^ 32) (byte >>= rows_by) rows_spelling AreRows exact_int32
    halts_int32 halts_rows) (λ f fits. (refl, (refl, fits)))

halts_delete : Halts delete_at fields_spelling (Is 68)
unfolding delete_at
halts_delete =
    halts_mapped (big_endian w32 & (byte >>= old_by)) (λ f. int32 f.0 ++ old_spelling f.1)
    (λ f. (f.0 < 2 ^ 32) × IsOld f.1) (λ f. m.Delete f.0 f.1) fields_spelling (Is 68)
    (halts_both (big_endian w32) int32 (λ n. n < 2 ^ 32) (byte >>= old_by) old_spelling IsOld exact_int32 halts_int32
    halts_old) (λ f fits. (refl, (refl, fits)))

halts_truncate_by : (n : ℕ) → n < 2 ^ 31
    → Halts (mapped (λ f. m.Truncate f.0 f.1) (byte & many (big_endian w32) n)) truncate_rest
    (λ x. (tables_of x ≡ n) × Is 84 x)
halts_truncate_by n few =
    halts_mapped (byte & many (big_endian w32) n) (λ f. int8 f.0 ++ flat_map int32 f.1)
    (λ f. (f.0 < 256) × ((length f.1 ≡ n) × All IsOid f.1)) (λ f. m.Truncate f.0 f.1)
    truncate_rest (λ x. (tables_of x ≡ n) × Is 84 x)
    (halts_both byte int8 (λ b. b < 256) (many (big_endian w32) n) (flat_map int32)
    (λ all. (length all ≡ n) × All IsOid all) exact_byte (halts_byte (λ b. b < 256) (omega arith))
    (halts_all (big_endian w32) int32 IsOid exact_int32 halts_int32 n))
    (λ f fits. (refl, (fits.1.0, (refl, (subst (λ (k : ℕ). k < 2 ^ 31) (sym fits.1.0) few, (fits.0, fits.1.1))))))

halts_truncate : Halts truncate_at fields_spelling (Is 84)
unfolding truncate_at
halts_truncate =
    halts_as (count32 >>= (λ n. mapped (λ f. m.Truncate f.0 f.1) (byte & many (big_endian w32) n)))
    (λ x. int32 (tables_of x) ++ truncate_rest x) (λ x. (tables_of x < 2 ^ 31) × Is 84 x) fields_spelling (Is 84)
    (halts_then count32 (λ n. mapped (λ f. m.Truncate f.0 f.1) (byte & many (big_endian w32) n)) int32 truncate_rest
    (λ n. n < 2 ^ 31) (Is 84) tables_of exact_count32 halts_count32 halts_truncate_by)
    (λ x fits. (truncate_is x fits.1, fits.1))

message_branch : (kind : ℕ) → Branch (message_by kind) kind fields_spelling IsMessage msg_letter
message_branch kind =
    branch_if kind 66 begin_at _ fields_spelling IsMessage msg_letter (inl halts_begin)
    (branch_if kind 67 commit_at _ fields_spelling IsMessage msg_letter (inl halts_commit)
    (branch_if kind 82 relation_at _ fields_spelling IsMessage msg_letter (inl halts_relation)
    (branch_if kind 73 insert_at _ fields_spelling IsMessage msg_letter (inl halts_insert)
    (branch_if kind 85 update_at _ fields_spelling IsMessage msg_letter (inl halts_update)
    (branch_if kind 68 delete_at _ fields_spelling IsMessage msg_letter (inl halts_delete)
    (branch_if kind 84 truncate_at (fail (Unknown kind)) fields_spelling IsMessage msg_letter (inl halts_truncate)
    (unknown kind fields_spelling IsMessage msg_letter)))))))

pub halts_message : Halts message_at spelling_of IsMessage
unfolding message_at
halts_message = halts_letter message_by fields_spelling IsMessage msg_letter halts_commit.value
    halts_commit.fits.1 message_branch

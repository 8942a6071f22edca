use Rattle.std.proofs.Common.{◌≡◌, List, ℕ, [], ◌∷◌, ◌++◌, ◌∙◌, refl}
use Rattle.std.specs.Int.{to_be_bytes, w64}
use Rattle.copy_frames.specs.Contents.{flag}
use Rattle.copy_frames.proofs.ContentLemmas.{joined_6}
use Rattle.copy_frames.proofs.status.append_status.Goals as goal

pub returns-clause-ok : goal.returns-clause-ok
returns-clause-ok c =
    let out : List ℕ = c.args.out.now.items in
    let s = c.args.status.now in
    let chain : c.put_flag.new.out.items
    ≡ out ++ (100 ∷ 0 ∷ 0 ∷ 0 ∷ 38 ∷ 114 ∷ []) ++ to_be_bytes w64 s.written ++ to_be_bytes w64 s.flushed
    ++ to_be_bytes w64 s.applied
    ++ to_be_bytes w64 s.clock ++ (flag s.wants_reply ∷ []) =
    rw (
      c.put_flag.ensures.items,
      c.put_int64-4.ensures.items,
      c.put_int64-3.ensures.items,
      c.put_int64-2.ensures.items,
      c.put_int64.ensures.items,
      c.put.ensures.items,
      c.reserve.ensures.items,
    ) refl in
    chain ∙ joined_6 out (100 ∷ 0 ∷ 0 ∷ 0 ∷ 38 ∷ 114 ∷ []) (to_be_bytes w64 s.written) (to_be_bytes w64 s.flushed)
    (to_be_bytes w64 s.applied)
    (to_be_bytes w64 s.clock) (flag s.wants_reply ∷ [])

use Rattle.std.proofs.Common.{◌≡◌, List, ℕ, [], ◌∷◌, ◌++◌, ◌∙◌, refl}
use Rattle.std.specs.Int.{to_be_bytes, w64}
use Rattle.copy_frames.specs.Contents.{flag}
use Rattle.copy_frames.proofs.ContentLemmas.{joined_4}
use Rattle.copy_frames.proofs.keepalive.append_keepalive.Goals as goal

pub returns-clause-ok : goal.returns-clause-ok
returns-clause-ok c =
    let out : List ℕ = c.args.out.now.items in
    let k = c.args.keepalive.now in
    let chain : c.put_flag.new.out.items ≡ out ++ (100 ∷ 0 ∷ 0 ∷ 0 ∷ 22 ∷ 107 ∷ []) ++ to_be_bytes w64 k.position
    ++ to_be_bytes w64 k.clock ++ (flag k.wants_reply ∷ []) =
    rw (
      c.put_flag.ensures.items,
      c.put_int64-2.ensures.items,
      c.put_int64.ensures.items,
      c.put.ensures.items,
      c.reserve.ensures.items,
    ) refl in
    chain ∙ joined_4 out (100 ∷ 0 ∷ 0 ∷ 0 ∷ 22 ∷ 107 ∷ []) (to_be_bytes w64 k.position) (to_be_bytes w64 k.clock)
    (flag k.wants_reply ∷ [])

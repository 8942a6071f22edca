use Rattle.std.proofs.Common.{◌≡◌, List, ℕ, [], ◌∷◌, ◌++◌, ◌+◌, length, ◌∙◌, ap, refl, arith}
use Rattle.std.specs.Int.{to_be_bytes, w32, w64}
use Rattle.copy_frames.specs.Contents.{xlog_data_body}
use Rattle.copy_frames.proofs.ContentLemmas.{joined_7}
use Rattle.copy_frames.proofs.xlog_data.append_xlog_data.Goals as goal

pub returns-clause-ok : goal.returns-clause-ok
returns-clause-ok c =
    let out : List ℕ = c.args.out.now.items in
    let h = c.args.head.now in
    let message : List ℕ = c.args.message.now in
    let size : ℕ = 29 + length message in
    let chain : c.put.new.out.items
    ≡ out ++ (100 ∷ []) ++ to_be_bytes w32 size ++ (119 ∷ []) ++ to_be_bytes w64 h.start ++ to_be_bytes w64 h.end
    ++ to_be_bytes w64 h.clock
    ++ message =
    rw (
      c.put.ensures.items,
      c.put_int64-3.ensures.items,
      c.put_int64-2.ensures.items,
      c.put_int64.ensures.items,
      c.put_byte-2.ensures.items,
      c.put_int32.ensures.items,
      c.put_byte.ensures.items,
      c.reserve.ensures.items,
    ) refl
    in
    let same : size ≡ length (xlog_data_body h message) + 4 = omega arith in
    chain ∙ joined_7 out (100 ∷ []) (to_be_bytes w32 size) (119 ∷ []) (to_be_bytes w64 h.start) (to_be_bytes w64 h.end)
    (to_be_bytes w64 h.clock)
    message
    ∙ ap (λ n. out ++ (100 ∷ (to_be_bytes w32 n ++ xlog_data_body h message))) same

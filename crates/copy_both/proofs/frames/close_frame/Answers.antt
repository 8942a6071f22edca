use Rattle.std.proofs.Common.{◌≡◌, ℕ, ◌+◌, ◌-◌, ◌∷◌, length, length-append, ap, ◌∙◌, arith}
use Rattle.std.specs.Int.{to_be_bytes, w32}
use Rattle.copy_both.proofs.FramingLemmas.{written_back}
use Rattle.copy_both.proofs.frames.close_frame.Goals as goal

pub returns : goal.returns
returns c = λ front body long is.
    let out = c.args.out.now in
    let number : out.len - c.args.start - 1 ≡ length body + 4 =
    omega (arith, out.ok.0, ap length is, length-append front (100 ∷ 0 ∷ 0 ∷ 0 ∷ 0 ∷ body), long) in
    written_back out.items c.deref_mut.result.now c.copy_from_slice.new.self front body out.len c.args.start _
    out.ok.0 c.deref_mut.ensures.value (omega arith) long is
    (c.copy_from_slice.ensures.after ∙ c.to_be_bytes.ensures
    ∙ ap (to_be_bytes w32) (ap (λ (n : ℕ). n - c.args.start - 1) c.len.ensures ∙ number))

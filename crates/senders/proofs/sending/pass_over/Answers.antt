use Rattle.std.proofs.Common.{◌≡◌, ◌∙◌, drop, ap, arith}
use Rattle.std.specs.Arc.{arc_value}
use Rattle.senders.proofs.SkippingLemmas.{appended, subst_quiet, subst_taken}
use Rattle.senders.proofs.sending.pass_over.Goals as goal

-- what is passed over is what was appended
pub skip_all-requires : goal.skip_all-requires
skip_all-requires c =
    let same : c.split_at.result.1.now ≡ c.args.commits.items =
    appended c.args.taken.now.items c.args.commits.items c.append.new.self.items c.split_at.result.1.now
    c.len-before.result c.in_ok-append.ensures.items (omega (arith, c.len-before.ensures, c.args.taken.now.ok.0))
    (c.split_at.ensures.back ∙ ap (drop c.len-before.result) c.as_slice.ensures.value) in
    subst_quiet (λ commit. arc_value commit) c.args.commits.items c.split_at.result.1.now c.args.voice.now same
    c.requires

pub returns-clause-ok : goal.returns-clause-ok
returns-clause-ok c =
    let same : c.split_at.result.1.now ≡ c.args.commits.items =
    appended c.args.taken.now.items c.args.commits.items c.append.new.self.items c.split_at.result.1.now
    c.len-before.result c.in_ok-append.ensures.items (omega (arith, c.len-before.ensures, c.args.taken.now.ok.0))
    (c.split_at.ensures.back ∙ ap (drop c.len-before.result) c.as_slice.ensures.value) in
    subst_taken (λ commit. arc_value commit) c.args.commits.items c.split_at.result.1.now c.args.voice.now
    c.skip_all.new.voice same c.skip_all.ensures

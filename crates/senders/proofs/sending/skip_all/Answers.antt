use Rattle.std.proofs.Common.{arith}
use Rattle.std.specs.Arc.{arc_value}
use Rattle.senders.proofs.SkippingLemmas.{is_next, is_quiet, skips_all, skips_first, skips_next}
use Rattle.senders.proofs.sending.skip_all.Goals as goal

pub loop-commit-init : goal.loop-commit-init
loop-commit-init c = skips_first (λ commit. arc_value commit) c.args.commits.now c.args.voice.now c.requires

pub skip-requires-clause-next : goal.skip-requires-clause-next
skip-requires-clause-next c =
    is_next (λ commit. arc_value commit) c.args.commits.now c.args.voice.now c.loop-commit.commit-index
    c.loop-commit.voice c.commit-item.result c.deref.result.now (omega (arith, c.loop-commit-test.true))
    c.commit-item.is c.deref.ensures c.loop-commit.invariant

pub skip-requires-clause-quiet : goal.skip-requires-clause-quiet
skip-requires-clause-quiet c =
    is_quiet (λ commit. arc_value commit) c.args.commits.now c.args.voice.now c.loop-commit.commit-index
    c.loop-commit.voice c.commit-item.result c.deref.result.now (omega (arith, c.loop-commit-test.true))
    c.commit-item.is c.deref.ensures c.loop-commit.invariant

pub loop-commit-preserved : goal.loop-commit-preserved
loop-commit-preserved c =
    skips_next (λ commit. arc_value commit) c.args.commits.now c.args.voice.now c.loop-commit.commit-index
    c.loop-commit.voice c.commit-item.result c.deref.result.now (omega (arith, c.loop-commit-test.true))
    c.commit-item.is c.deref.ensures c.loop-commit.invariant c.skip.new.self c.skip.ensures

pub returns : goal.returns
returns c =
    skips_all (λ commit. arc_value commit) c.args.commits.now c.args.voice.now c.loop-commit.commit-index
    c.loop-commit.voice (omega (arith, c.loop-commit-test.false)) c.loop-commit.invariant

use Rattle.std.proofs.Common.{◌≡◌, ◌+◌, arith, replicate, subst}
use Rattle.std.specs.Prelude.{suc}
use Rattle.shard_world.specs.Pumping.{WalksAll}
use Rattle.shard_world.specs.World as w
use Rattle.shard_world.specs.World.{Take}
use Rattle.shard_world.specs.WorldCalls.{StepsFromEach}
use Rattle.shard_world.proofs.PumpLemmas.{takes_end, takes_enough, takes_idle, takes_more}
use Rattle.shard_world.proofs.world.World.take_all.Goals as goal

pub returns-in-Ok-Idle : goal.returns-in-Ok-Idle
returns-in-Ok-Idle c =
    takes_idle c.args.now c.args.subscriber c.args.self.now c.loop.self c.go_on.new.self c.loop.counter
    c.loop.invariant.0
    (subst (StepsFromEach c.loop.self c.go_on.new.self c.args.now (w.On c.args.subscriber Take)) c.in-Ok-Idle.field-0-is
    c.in-Ok-Idle.ensures.ok)

pub returns-in-Err : goal.returns-in-Err
returns-in-Err c =
    takes_end c.args.now c.args.subscriber c.args.self.now c.loop.self c.go_on.new.self c.loop.counter c.in-Err.answer
    c.loop.invariant.0 c.in-Err.ensures.ends c.in-Err.ensures.err

pub loop-preserved : goal.loop-preserved
loop-preserved c =
    let further : suc c.loop.counter ≡ c.loop.counter + 1 = omega arith in (
      subst (λ n. WalksAll c.args.self.now c.go_on.new.self c.args.now c.args.subscriber (replicate n Take)) further
          (takes_more c.args.now c.args.subscriber c.args.self.now c.loop.self c.go_on.new.self c.loop.counter
          c.in-Ok.field-0 c.loop.invariant.0 c.in-Ok.ensures.goes c.in-Ok.ensures.ok),
      c.loop.invariant.1,
    )

pub returns-in-Ok : goal.returns-in-Ok
returns-in-Ok c =
    takes_enough c.args.now c.args.subscriber c.args.self.now c.go_on.new.self (suc c.loop.counter)
    (omega (arith, c.loop.invariant.1))
    (takes_more c.args.now c.args.subscriber c.args.self.now c.loop.self c.go_on.new.self c.loop.counter
    c.in-Ok.field-0 c.loop.invariant.0 c.in-Ok.ensures.goes c.in-Ok.ensures.ok)

use Rattle.std.proofs.Common.{ap, subst, sym, ◌∙◌}
use Rattle.std.specs.Prelude.{map}
use Rattle.table_changes.specs.Commands.{command_view}
use Rattle.shard_world.specs.World.{Commit, event_view}
use Rattle.shard_world.specs.WorldCalls.{StepsFromEach}
use Rattle.shard_world.proofs.world.World.step.Goals as goal

pub returns-in-Commit : goal.returns-in-Commit
returns-in-Commit c =
    subst (λ event. StepsFromEach c.args.self.now c.commit.new.self c.args.now event c.commit.result)
    (ap (λ commands. Commit (map command_view commands) c.in-Commit.time) c.as_slice.ensures.value
    ∙ sym (ap event_view c.in-Commit.is))
    (c.commit.ensures c.args.now c.ranges.now.fits)

pub returns-in-On : goal.returns-in-On
returns-in-On c =
    subst (λ event. StepsFromEach c.args.self.now c.on.new.self c.args.now event c.on.result)
    (sym (ap event_view c.in-On.is)) c.on.ensures.steps

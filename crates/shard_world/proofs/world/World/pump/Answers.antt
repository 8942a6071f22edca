use Rattle.shard_world.specs.Pumping.{Pumped, Ended}
use Rattle.shard_world.proofs.PumpWorlds.{end_of_log, wants_memory}
use Rattle.shard_world.proofs.world.World.pump.Goals as goal

pub returns-in-Ok : goal.returns-in-Ok
returns-in-Ok c =
    rw c.to_u64.ensures
    (Pumped c.position.result c.in-Ok.ensures.0 c.position.ensures
    (end_of_log c.args.self.now c.pump_through.new.self c.args.subscriber c.position.result c.in-Ok.ensures.1
    c.position.ensures))

pub returns-in-Err : goal.returns-in-Err
returns-in-Err c =
    Ended c.in-Err.answer c.in-Err.ensures
    (wants_memory c.args.self.now c.pump_through.new.self c.args.now c.args.subscriber c.in-Err.answer c.in-Err.ensures)

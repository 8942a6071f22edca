use Rattle.std.proofs.Common.{[], ◌∷◌, subst}
use Rattle.shard_world.specs.Pumping.{TakesThrough, WalksThrough, all_bytes}
use Rattle.shard_world.specs.World.{Hear}
use Rattle.shard_world.proofs.PumpWorlds.{pumped_by}
use Rattle.shard_world.proofs.world.World.pump_through.Goals as goal

pub returns : goal.returns
returns c =
    pumped_by c.args.self.now c.go_through.new.self c.take_all.new.self c.go_through-2.new.self c.args.now
    c.args.subscriber c.ranges.now.fits
    (subst (WalksThrough c.args.self.now c.go_through.new.self c.args.now c.args.subscriber (Hear all_bytes ∷ []))
    c.in_default.is c.go_through.ensures)
    (subst (TakesThrough c.go_through.new.self c.take_all.new.self c.args.now c.args.subscriber) c.in_default-take_all.is
    c.take_all.ensures)
    c.go_through-2.result c.go_through-2.ensures

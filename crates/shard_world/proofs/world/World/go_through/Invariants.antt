use Rattle.std.proofs.Common.{take}
use Rattle.shard_world.specs.Pumping.{WalksAll}
use Rattle.shard_world.proofs.world.World.go_through.Given as goal

abbrev pub invariant-loop-event : goal.invariant-loop-event
invariant-loop-event l = WalksAll l.fn.self l.self l.now l.subscriber (take l.event-index l.events)

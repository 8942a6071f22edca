use Rattle.std.proofs.Common.{◌≡◌, ◌≤◌, length, map, take}
use Rattle.shard_world.specs.World.{timed_view}
use Rattle.shard_world.specs.WorldCalls.{RunsFromEach}
use Rattle.shard_world.proofs.world.World.run.Given as goal

abbrev pub invariant-loop-now : goal.invariant-loop-now
invariant-loop-now l =
    RunsFromEach l.fn.self l.self (map timed_view (take l.now-index l.events)) l.answers.items
    × (l.answers.len ≡ l.now-index) × (length l.events ≤ l.answers.cap)

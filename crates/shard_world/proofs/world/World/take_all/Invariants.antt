use Rattle.std.proofs.Common.{◌≡◌, length, replicate}
use Rattle.tables_log.specs.BookView.{book_log}
use Rattle.shard_world.specs.Pumping.{WalksAll}
use Rattle.shard_world.specs.World.{Take}
use Rattle.shard_world.specs.WorldCalls.{world_book}
use Rattle.shard_world.proofs.world.World.take_all.Given as goal

abbrev pub invariant-loop : goal.invariant-loop
invariant-loop l = WalksAll l.fn.self l.self l.now l.subscriber (replicate l.counter Take)
    × (l.end ≡ length (book_log (world_book l.fn.self)))

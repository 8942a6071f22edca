use Rattle.std.proofs.Common.{◌≡◌, length}
use Rattle.shard_world.specs.ViewContents.{AllAt, SeenAt}
use Rattle.shard_world.proofs.view.seen_of_all.Given as goal

abbrev pub invariant-loop-number : goal.invariant-loop-number
invariant-loop-number l = (length l.subscribers.items ≡ l.number)
    × AllAt (SeenAt l.book l.tables l.peers) l.subscribers.items

use Rattle.std.proofs.Common.{◌≡◌, length}
use Rattle.shard_world.specs.ViewContents.{AllAt, FoundBy}
use Rattle.shard_world.proofs.view.rows_of_copies.Given as goal

abbrev pub invariant-loop-table : goal.invariant-loop-table
invariant-loop-table l = (length l.rows.items ≡ l.table)
    × AllAt (λ table rows. FoundBy l.subscriber table rows.items) l.rows.items

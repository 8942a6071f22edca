use Rattle.std.proofs.Common.{◌≡◌, length}
use Rattle.shard_world.specs.ViewContents.{AllAt, FoundIn}
use Rattle.shard_world.proofs.view.rows_of_tables.Given as goal

abbrev pub invariant-loop-table : goal.invariant-loop-table
invariant-loop-table l = (length l.rows.items ≡ l.table)
    × AllAt (λ table rows. FoundIn l.book table rows.items) l.rows.items

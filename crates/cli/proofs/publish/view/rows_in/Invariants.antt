use Rattle.std.proofs.Common.{◌≡◌, length}
use Rattle.shard_world.specs.ViewContents.{AllAt, FoundIn}
use Rattle.cli.proofs.publish.view.rows_in.Given as goal

-- the rows of the tables so far
abbrev pub invariant-loop-table : goal.invariant-loop-table
invariant-loop-table l = (length l.rows.items ≡ l.table)
    × AllAt (λ table rows. FoundIn l.book table rows.items) l.rows.items

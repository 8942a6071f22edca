use Rattle.std.proofs.Common.{◌≡◌, map, drop}
use Rattle.std.specs.Prelude.{fold}
use Rattle.pub_catalog.specs.CatalogView.{entry_view}
use Rattle.replica_identity.specs.Joining.{joined_at}
use Rattle.replica_identity.specs.Shares.{share_view}
use Rattle.replica_identity.proofs.planning.join_entries.Given as goal

-- the entries that are left, joined to the shares so far
abbrev pub invariant-loop-entry : goal.invariant-loop-entry
invariant-loop-entry l =
    fold joined_at (map share_view l.shares.items) (map entry_view (drop l.entry-index l.entries))
    ≡ fold joined_at (map share_view l.fn.shares.items) (map entry_view l.entries)

use Rattle.std.proofs.Common.{◌≡◌, drop, map}
use Rattle.pub_catalog.specs.CatalogView.{entry_view}
use Rattle.shard_checker.specs.CatalogRefusal.{entries_refusal}
use Rattle.shard_checker.proofs.covering.check_entries.Given as goal

-- the refusal of those that are left is that of all
abbrev pub invariant-loop-entry : goal.invariant-loop-entry
invariant-loop-entry l =
    entries_refusal l.tables l.publication (map entry_view (drop l.entry-index l.entries))
    ≡ entries_refusal l.tables l.publication (map entry_view l.entries)

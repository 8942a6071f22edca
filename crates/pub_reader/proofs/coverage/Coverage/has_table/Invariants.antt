use Rattle.std.proofs.Common.{◌≡◌, drop, map}
use Rattle.std.specs.List.{list_any}
use Rattle.pub_catalog.specs.CatalogView.{entry_view}
use Rattle.pub_reader.specs.Objects.{is_entry_of}
use Rattle.pub_reader.proofs.coverage.Coverage.has_table.Given as goal

-- such an entry is among those that are left exactly if it is among all
abbrev pub invariant-loop-entry : goal.invariant-loop-entry
invariant-loop-entry l =
    list_any (is_entry_of l.number) (map entry_view (drop l.entry-index l.entry-items))
    ≡ list_any (is_entry_of l.number) (map entry_view l.entry-items)

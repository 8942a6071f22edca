use Rattle.std.proofs.Common.{◌≡◌, drop, map}
use Rattle.std.specs.List.{list_any}
use Rattle.filter_tree.specs.Values.{datum_view}
use Rattle.table_changes.specs.Columns.{is_null}
use Rattle.tables_log.proofs.keys.has_null.Given as goal

abbrev pub invariant-loop-value : goal.invariant-loop-value
invariant-loop-value l = list_any is_null (map datum_view (drop l.value-index l.value-items)) ≡ list_any is_null l.row

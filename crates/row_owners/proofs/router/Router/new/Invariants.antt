use Rattle.std.proofs.Common.{◌≡◌, length}
use Rattle.shard_checker.specs.CheckedView.{checked_view}
use Rattle.row_owners.proofs.RouterLemmas.{RouteTables}
use Rattle.row_owners.proofs.router.Router.new.Given as goal

-- there is a router for each table so far
abbrev pub invariant-loop-table : goal.invariant-loop-table
invariant-loop-table l = record {
  count : length l.tables.items ≡ l.table;
  each : RouteTables (checked_view l.checked).plan l.tables.items;
}

use Rattle.std.proofs.Common.{◌≡◌, drop}
use Rattle.shard_checker.specs.CatalogRefusal.{column_refusal}
use Rattle.shard_checker.proofs.covering.check_columns.Given as goal

-- the refusal of those that are left is that of all
abbrev pub invariant-loop-column : goal.invariant-loop-column
invariant-loop-column l =
    column_refusal l.publication l.number l.table (drop l.column-index l.columns)
    ≡ column_refusal l.publication l.number l.table l.columns

-- Which unique indexes may be a replica identity: PostgreSQL 15, SQL Commands, ALTER TABLE, REPLICA IDENTITY USING
-- INDEX.
use Rattle.std.specs.Prelude.{ℕ, Bool, false, List, Option, Some, None, slice_get}
use Rattle.std.specs.List.{list_all}
use Rattle.filter_tree.specs.declared.table.Column.{Column}
use Rattle.filter_tree.specs.declared.table.UniqueIndex.{UniqueIndex}

-- a column that exists and is NOT NULL
abbrev pub takes_no_null : Option Column → Bool
takes_no_null None = false
takes_no_null (Some column) = column.not_null

abbrev pub take_no_null : List Column → List ℕ → Bool
take_no_null columns numbers = list_all (λ number. takes_no_null (slice_get columns number)) numbers

-- an index that exists, whose columns are NOT NULL
abbrev pub identifies : List Column → Option UniqueIndex → Bool
identifies columns None = false
identifies columns (Some index) = take_no_null columns index.columns

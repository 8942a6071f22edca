-- Shares that grow by the entries of publications, one after another: PostgreSQL 15, "Logical Replication", 31.3.6
-- Combining Multiple Row Filters.
use Rattle.std.specs.Prelude.{List, Option, Some, None, slice_index_or, slice_set}
use Rattle.filter_tree.specs.Expr.{Expr, Or}
use Rattle.pub_catalog.specs.Catalogs.{EntryOf}
use Rattle.replica_identity.specs.Shares.{ShareOf, Nothing, Everything, Where}

-- with one more entry for the table
abbrev pub joined : ShareOf → Option Expr → ShareOf
joined Everything more = Everything
joined Nothing None = Everything
joined (Where filter) None = Everything
joined Nothing (Some more) = Where more
joined (Where filter) (Some more) = Where (Or filter more)

-- the shares of the tables with one more entry for its table
abbrev pub joined_at : List ShareOf → EntryOf Expr → List ShareOf
joined_at shares entry = slice_set shares entry.table (joined (slice_index_or shares entry.table Nothing) entry.filter)

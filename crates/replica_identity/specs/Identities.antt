-- The columns of a table's replica identity, whose old values an UPDATE or DELETE records, and whether they identify
-- the row: PostgreSQL 15, "Logical Replication", 31.1 Publication, and ALTER TABLE (REPLICA IDENTITY).
use Rattle.std.specs.Prelude.{ℕ, zero, suc, ◌==◌, Bool, true, false, List, [], ◌∷◌, ◌++◌, length, Option, Some, None, slice_get}
use Rattle.std.specs.List.{list_any}
use Rattle.filter_tree.specs.declared.table.Identity.{Identity}
use Rattle.filter_tree.specs.declared.table.Identity.TheVariants.{Default, Index, Full, Nothing}
use Rattle.filter_tree.specs.declared.table.Table.{Table}
use Rattle.filter_tree.specs.declared.table.UniqueIndex.{UniqueIndex}
use Rattle.pub_catalog.specs.IndexIdentities.{identifies}

-- 0, 1 and so on, this many numbers
abbrev pub numbers_to : ℕ → List ℕ
numbers_to zero = []
numbers_to (suc n) = numbers_to n ++ n ∷ []

-- none if there is no such index
abbrev pub index_columns : Option UniqueIndex → List ℕ
index_columns None = []
index_columns (Some index) = index.columns

-- the primary key, a unique index, every column, or none
abbrev pub columns_by : Identity → Table → List ℕ
columns_by Default table = table.key
columns_by (Index number) table = index_columns (slice_get table.indexes number)
columns_by Full table = numbers_to (length table.columns)
columns_by Nothing table = []

abbrev pub identity_columns : Table → List ℕ
identity_columns table = columns_by table.identity table

-- whether the column is one of them
abbrev pub is_covered : Table → ℕ → Bool
is_covered table column = list_any (λ number. number == column) (identity_columns table)

-- ---- rows that are distinguished

-- An index that does not exist, or one of whose columns allows null, is not a replica identity: an index that was
-- dropped acts as NOTHING.
abbrev pub identity_tells : Identity → Table → Bool
identity_tells Default table = true
identity_tells (Index number) table = identifies table.columns (slice_get table.indexes number)
identity_tells Full table = true
identity_tells Nothing table = false

-- whether what is recorded of an old row identifies that row in the table
abbrev pub tells_rows_apart : Table → Bool
tells_rows_apart table = identity_tells table.identity table

-- What is recorded of an old row of a table: PostgreSQL 15, "Logical Replication", 31.1 Publication, and SQL
-- Commands, ALTER TABLE (REPLICA IDENTITY).
use Rattle.std.specs.Prelude.{◌≡◌, ℕ, Bool, List, Option, Some, slice_get}
use Rattle.std.specs.List.{list_all}
use Rattle.std.specs.Ordering.{eq_by_cmp}
use Rattle.filter_tree.specs.Datum.{Datum, value_at}
use Rattle.filter_tree.specs.Expr.{Expr}
use Rattle.filter_tree.specs.Order.{datum_cmp}
use Rattle.filter_tree.specs.declared.table.Table.{Table}
use Rattle.pub_catalog.specs.Catalogs.{CatalogOf}
use Rattle.replica_identity.specs.Plans.{PlanOf}
use Rattle.replica_identity.specs.Setting.{recorded_as, identity_in, blanked_in, setting_of}
use Rattle.table_changes.specs.Columns.{values_at, blanked_from}
use Rattle.table_changes.specs.Records.{PartOf, part_by, part_of}
use Rattle.table_changes.specs.Setting.{Columns}

-- what is recorded of an old row that goes, or that a new one replaces
abbrev pub part_in : Table → List Datum → Option (List Datum) → Option PartOf
part_in table old new =
    part_by (recorded_as table.identity) (identity_in (Some table)) (blanked_in (Some table)) old new

-- the same, if these columns identify rows
abbrev pub key_part : List ℕ → List Datum → Option (List Datum) → Option PartOf
key_part columns old new = part_by Columns (values_at columns) (blanked_from columns 0) old new

-- both rows have the same value in a column, and in some columns
abbrev pub agree_at : List Datum → List Datum → ℕ → Bool
agree_at one other column = eq_by_cmp datum_cmp (value_at one column) (value_at other column)

abbrev pub agree_in : List Datum → List Datum → List ℕ → Bool
agree_in one other columns = list_all (agree_at one other) columns

-- In the setting of a catalog this is what is recorded of the rows of a table that exists.
abbrev pub RecordsParts : Type 0
RecordsParts = (catalog : CatalogOf Expr) (plan : PlanOf) (number : ℕ) (table : Table)
    → slice_get catalog.tables number ≡ Some table
    → (old : List Datum) (new : Option (List Datum))
    → part_of (setting_of catalog plan) number old new ≡ part_in table old new

-- What a subscriber gets of a table. Filters of several publications are joined by OR, and a publication that carries
-- the table whole makes the others redundant: PostgreSQL 15, "Logical Replication", 31.3.6 Combining Multiple Row
-- Filters.
use Rattle.std.specs.Prelude.{Bool, true, false, List, [], ◌∷◌, Option, fold, is_none, filter_map, if◌then◌else◌}
use Rattle.std.specs.List.{list_any}
use Rattle.filter_tree.specs.Datum.{Datum}
use Rattle.filter_tree.specs.Expr.{Expr, Or, meaning}
use Rattle.filter_tree.specs.Shape.{expr_view}
use Rattle.filter_tree.specs.declared.tri.Tri.{Tri}
use Rattle.filter_tree.specs.declared.tri.Tri.TheVariants.{True}
use Rattle.replica_identity.specs.declared.share.Share.{Share}
use Rattle.replica_identity.specs.declared.share.Share.TheVariants as s

-- nothing, every row, or the rows for which a filter is true
pub data ShareOf : Type 0 where
  Nothing : ShareOf
  Everything : ShareOf
  Where : Expr → ShareOf

-- a share of the program as plain data
abbrev pub share_view : {A : _} → Share A → ShareOf
share_view s.Nothing = Nothing
share_view s.Everything = Everything
share_view (s.Where filter) = Where (expr_view filter)

abbrev pub is_true : Tri → Bool
is_true True = true
is_true _ = false

-- whether it has the row; it does not if its filter is null
abbrev pub takes : ShareOf → List Datum → Bool
takes Nothing row = false
takes Everything row = true
takes (Where filter) row = is_true (meaning filter row)

-- filters joined by OR, to the left
abbrev pub any_of : List Expr → ShareOf
any_of [] = Nothing
any_of (filter ∷ filters) = Where (fold Or filter filters)

-- the share of entries with these filters, in their order: an entry without a filter has the whole table
abbrev pub share_by : List (Option Expr) → ShareOf
share_by filters = if list_any is_none filters then Everything else any_of (filter_map (λ filter. filter) filters)

abbrev pub is_nothing : ShareOf → Bool
is_nothing Nothing = true
is_nothing _ = false

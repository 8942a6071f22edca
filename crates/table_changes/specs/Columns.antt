-- The values that a row has in some columns, as a key, a unique index or a replica identity names them: PostgreSQL
-- 15, 5.4.4 Primary Keys, 11.6 Unique Indexes, and ALTER TABLE, "REPLICA IDENTITY".
use Rattle.std.specs.Prelude.{ℕ, ◌+◌, ◌==◌, Bool, true, false, List, [], ◌∷◌, map, Option, Some, None, if◌then◌else◌}
use Rattle.std.specs.List.{list_any}
use Rattle.filter_tree.specs.Datum.{Datum, Missing, Known, value_at}

abbrev pub values_at : List ℕ → List Datum → List Datum
values_at columns row = map (value_at row) columns

abbrev pub is_null : Datum → Bool
is_null Missing = true
is_null (Known constant) = false

-- the values, unless one of them is null
abbrev pub unless_null : List Datum → Option (List Datum)
unless_null values = if list_any is_null values then None else Some values

-- the values from this number on, with nulls outside these columns
abbrev pub blanked_from : List ℕ → ℕ → List Datum → List Datum
blanked_from columns number [] = []
blanked_from columns number (value ∷ values) =
    (if list_any (λ column. column == number) columns then value else Missing)
    ∷ blanked_from columns (number + 1) values

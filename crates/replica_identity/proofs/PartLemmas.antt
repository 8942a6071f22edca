-- What is recorded of an old row: which of its columns identify it, and whether a new row agrees with it in them.
use Rattle.std.proofs.Common.{◌≡◌, ℕ, true, false, List, [], ◌∷◌, refl, sym, ◌∙◌}
use Rattle.std.specs.Prelude.{Option, Some, None, slice_get}
use Rattle.std.specs.Cmp.{both_tied}
use Rattle.std.specs.Ordering.{eq_by_cmp}
use Rattle.filter_tree.specs.Datum.{Datum, value_at}
use Rattle.filter_tree.specs.Order.{datum_cmp, row_cmp}
use Rattle.filter_tree.specs.Same.{same_row}
use Rattle.filter_tree.specs.declared.table.Identity.TheVariants.{Default, Index, Full, Nothing}
use Rattle.filter_tree.specs.declared.table.Table.{Table}
use Rattle.filter_tree.proofs.OrderLemmas.{ties_same_rows}
use Rattle.replica_identity.specs.Identities.{index_columns}
use Rattle.replica_identity.specs.Parts.{part_in, key_part, agree_at, agree_in, RecordsParts}
use Rattle.table_changes.specs.Columns.{values_at, blanked_from}
use Rattle.table_changes.specs.Records as r

-- ---- rows that agree

agree_ties : (columns : List ℕ) (one other : List Datum)
    → agree_in one other columns ≡ eq_by_cmp row_cmp (values_at columns one) (values_at columns other)
agree_ties [] one other = refl
agree_ties (column ∷ columns) one other =
    both_tied (agree_at one other column) (agree_in one other columns)
    (datum_cmp (value_at one column) (value_at other column))
    (row_cmp (values_at columns one) (values_at columns other)) refl (agree_ties columns one other)

agree_same : (columns : List ℕ) (one other : List Datum)
    → agree_in one other columns ≡ same_row (values_at columns one) (values_at columns other)
agree_same columns one other = agree_ties columns one other
    ∙ ties_same_rows (values_at columns one) (values_at columns other)

pub none_of_kept : (columns : List ℕ) (old new : List Datum) → agree_in old new columns ≡ true
    → key_part columns old (Some new) ≡ None
none_of_kept columns old new h =
    let kept : same_row (values_at columns old) (values_at columns new) ≡ true = sym (agree_same columns old new)
    ∙ h in rw kept refl

pub key_of_changed : (columns : List ℕ) (old new : List Datum) → agree_in old new columns ≡ false
    → key_part columns old (Some new) ≡ Some (r.Key (blanked_from columns 0 old))
key_of_changed columns old new h =
    let changed : same_row (values_at columns old) (values_at columns new) ≡ false = sym (agree_same columns old new)
    ∙ h in rw changed refl

-- ---- by the replica identity

pub by_default : (table : Table) (old : List Datum) (new : Option (List Datum)) → table.identity ≡ Default
    → part_in table old new ≡ key_part table.key old new
by_default table old new h = rw h refl

pub by_index : (table : Table) (number : ℕ) (old : List Datum) (new : Option (List Datum))
    → table.identity ≡ Index number
    → part_in table old new ≡ key_part (index_columns (slice_get table.indexes number)) old new
by_index table number old new h = rw h refl

pub by_full : (table : Table) (old : List Datum) (new : Option (List Datum)) → table.identity ≡ Full
    → part_in table old new ≡ Some (r.Full old)
by_full table old new h = rw h refl

pub by_nothing : (table : Table) (old : List Datum) (new : Option (List Datum)) → table.identity ≡ Nothing
    → part_in table old new ≡ None
by_nothing table old new h = rw h refl

-- ---- by the setting

pub records_parts : RecordsParts
records_parts catalog plan number table there old new = rw there refl

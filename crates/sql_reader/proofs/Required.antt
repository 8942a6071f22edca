-- Making one column of a list NOT NULL.
use Rattle.std.proofs.Common.{◌≡◌, ℕ, zero, suc, ◌<◌, ◌≤◌, true, List, [], ◌∷◌, length, slice_index_or, slice_set, refl, ap, arith}
use Rattle.filter_tree.specs.declared.table.Column.{Column}
use Rattle.sql_reader.specs.Columns.{required}

pub required-set : (columns : List Column) (number : ℕ) (column : Column) → number < length columns
    → column ≡ slice_index_or columns number column →
    slice_set columns number (record { name = column.name; kind = column.kind; not_null = true })
    ≡ required columns number
required-set [] number column within is = absurd (omega arith)
required-set (first ∷ columns) zero column within is = ap (λ (c : Column). record c { not_null = true } ∷ columns) is
required-set (first ∷ columns) (suc number) column within is =
    ap (λ cs. first ∷ cs) (required-set columns number column (omega arith) is)

pub required-past : (columns : List Column) (number : ℕ) → length columns ≤ number → columns ≡ required columns number
required-past [] number past = refl
required-past (first ∷ columns) zero past = absurd (omega arith)
required-past (first ∷ columns) (suc number) past = ap (λ cs. first ∷ cs) (required-past columns number (omega arith))

pub ruleset requires_column = (required-set, required-past)

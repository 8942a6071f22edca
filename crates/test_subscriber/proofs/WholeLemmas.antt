-- Columns that are all columns of rows of a width, in their order: the values in them are the row.
use Rattle.std.proofs.Common.{◌≡◌, ℕ, ◌+◌, ◌<◌, ◌≤◌, List, ◌∷◌, length, sym, ◌∙◌, ap, arith, drop, get_or, add-one, drop-cons}
use Rattle.std.proofs.Math.ListN.{drop_of_length-le}
use Rattle.std.proofs.lemmas.Option.{unwrap_or-slice_get}
use Rattle.filter_tree.specs.Datum.{Datum, Missing, value_at}
use Rattle.table_changes.specs.Columns.{values_at}

-- the columns before this number are the first ones, so the whole list is all columns if the rest is the others
pub record Completes (columns : List ℕ) (width number : ℕ) : Type 0 where
  pub whole : (row : List Datum) → length row ≡ width → values_at (drop number columns) row ≡ drop number row
      → values_at columns row ≡ row

pub completes_begin : (columns : List ℕ) (width : ℕ) → Completes columns width 0
completes_begin columns width = record { whole = λ row long rest. rest }

pub completes_go_on : (columns : List ℕ) (width number column : ℕ) → number < length columns → length columns ≡ width
    → get_or columns number column ≡ number
    → Completes columns width number → Completes columns width (number + 1)
completes_go_on columns width number column low many here completes = record {
  whole = λ row long rest.
      let inside : number < length row = omega (arith, many, long) in
      let first : drop number columns ≡ number ∷ drop (number + 1) columns =
      rw add-one (drop-cons columns number column low) ∙ ap (λ one. one ∷ drop (number + 1) columns) here in
      let value : drop number row ≡ value_at row number ∷ drop (number + 1) row =
      rw (add-one, unwrap_or-slice_get row number Missing) (drop-cons row number Missing inside) in
      completes.whole row long
      (ap (λ some. values_at some row) first ∙ ap (λ values. value_at row number ∷ values) rest ∙ sym value);
}

pub completes_end : (columns : List ℕ) (width number : ℕ) → length columns ≤ number → length columns ≡ width
    → Completes columns width number
    → (row : List Datum) → length row ≡ width → values_at columns row ≡ row
completes_end columns width number past many completes row long =
    let also : length row ≤ number = omega (arith, past, many, long) in
    completes.whole row long
    (ap (λ some. values_at some row) (drop_of_length-le columns past) ∙ sym (drop_of_length-le row also))

pub ruleset completing = (completes_begin, completes_go_on, completes_end)

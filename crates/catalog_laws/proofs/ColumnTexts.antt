-- The name of a column tells its number, if no two columns have the same name.
use Rattle.std.proofs.Common.{◌≡◌, ℕ, zero, suc, ◌<◌, List, [], ◌∷◌, ◌++◌, map, length, Some, slice_get, refl, ap, arith}
use Rattle.std.specs.List.{IsDistinct}
use Rattle.std.specs.Str.{bytes_eq}
use Rattle.filter_tree.specs.declared.table.Column.{Column}
use Rattle.catalog_text.specs.FilterText.{text_by, name_text, column_sql}
use Rattle.catalog_laws.proofs.NamedPlaces.{name_at_tells}
use Rattle.catalog_laws.proofs.QuotedTexts.{Same, Ends}

abbrev pub names_of : List Column → List (List ℕ)
names_of columns = map (λ column. column.name) columns

pub column_at : (columns : List Column) (n : ℕ) → n < length columns
    → (column : Column) × (slice_get columns n ≡ Some column)
column_at [] n known = absurd (omega arith)
column_at (first ∷ columns) zero known = (first, refl)
column_at (first ∷ columns) (suc n) known = column_at columns n (omega arith)

pub column_text_is : (columns : List Column) (n : ℕ) (column : Column) → slice_get columns n ≡ Some column
    → column_sql columns n ≡ name_text column.name
column_text_is columns n column e = ap (text_by (λ (c : Column). name_text c.name)) e

pub columns_apart : (columns : List Column) → IsDistinct bytes_eq (names_of columns) → (n m : ℕ) (x y : List ℕ)
    → n < length columns → m < length columns → Ends 34 x → Ends 34 y
    → column_sql columns n ++ x ≡ column_sql columns m ++ y → Same n m x y
columns_apart columns named n m x y known known_too p q e =
    name_at_tells (λ (column : Column). column.name) columns named n m x y known known_too p q e

-- Rows as they are printed: the constants of PostgreSQL 15, "SQL Syntax", 4.1.2, in parentheses, with a comma and one
-- space between each two.
use Rattle.std.specs.Prelude.{◌≢◌, ℕ, ◌≤ℤ◌, ◌<ℤ◌, true, false, All, List, [], ◌∷◌, ◌++◌, codes}
use Rattle.std.specs.Fmt.{signed_decimal}
use Rattle.std.specs.List.{join_by}
use Rattle.filter_tree.specs.Datum.{Number, Truth, Bytes, Datum, Missing, Known}
use Rattle.filter_tree.specs.Range.{least_of, greatest_of}
use Rattle.filter_tree.specs.Valid.{IsText}
use Rattle.filter_tree.specs.declared.table.ColType.TheVariants.{BigInt}
use Rattle.sql_tokens.specs.Doubled.{in_quotes}

-- the text of a value
abbrev pub value_text : Datum → List ℕ
value_text Missing = codes "NULL"
value_text (Known (Truth true)) = codes "TRUE"
value_text (Known (Truth false)) = codes "FALSE"
value_text (Known (Number number)) = signed_decimal number
value_text (Known (Bytes text)) = in_quotes 39 text

-- the text of a row, which without values is ()
abbrev pub row_text : List Datum → List ℕ
row_text row = 40 ∷ (join_by value_text (codes ", ") row ++ (41 ∷ []))

-- ---- the rows whose text is read as the row itself

-- The least bigint is not readable: without its minus it exceeds the greatest.
abbrev pub IsReadable : Datum → Type 0
IsReadable Missing = Unit {0}
IsReadable (Known (Truth truth)) = Unit {0}
IsReadable (Known (Number number)) = (least_of BigInt <ℤ number) × (number ≤ℤ greatest_of BigInt)
IsReadable (Known (Bytes text)) = IsText text

-- a row has a value, and each is readable
pub record IsReadableRow (row : List Datum) : Type 0 where
  pub some : row ≢ []
  pub each : All IsReadable row

-- the least bigint as a value
abbrev pub least : Datum
least = Known (Number (least_of BigInt))

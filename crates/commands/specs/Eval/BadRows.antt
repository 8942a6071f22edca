-- Which rows have an answer, those that are read and fit their table, and the line of a row that has none, in the
-- program's own format.
use Rattle.std.specs.Prelude.{◌≡◌, ℕ, Bool, false, List, ◌∷◌, ◌++◌, Some, None, Result, Ok, Err, is_none, codes}
use Rattle.filter_tree.specs.Datum.{Datum}
use Rattle.filter_tree.specs.Valid.{row_fault}
use Rattle.filter_tree.specs.declared.table.Column.{Column}
use Rattle.sql_reader.specs.KindNames.{kind_name}
use Rattle.sql_reader.specs.Reading.{Fault, ReportsFault, Tells, read_fault}
use Rattle.sql_reader.specs.Rows.{row_of}
use Rattle.sql_reader.specs.declared.error.ReadError.{ReadError}
use Rattle.commands.specs.Names.{fault_words, counted}
use Rattle.commands.specs.declared.eval.bad_row.BadRow.{BadRow}
use Rattle.commands.specs.declared.eval.bad_row.BadRow.TheVariants.{Unreadable, Invalid}

abbrev pub is_out_of_memory : BadRow → Bool
is_out_of_memory (Unreadable error) = is_none (read_fault error)
is_out_of_memory (Invalid fault) = false

-- a text is read as a row of a table with these columns, or why it is not
abbrev pub IsReading : List Column → List ℕ → Result (List Datum) BadRow → Type 0
IsReading columns text (Ok row) = (row_of text ≡ Ok row) × (row_fault columns row ≡ None)
IsReading columns text (Err (Unreadable error)) = Tells error (row_of text)
IsReading columns text (Err (Invalid fault)) = (row : List Datum) × (row_of text ≡ Ok row)
    × (row_fault columns row ≡ Some fault)

abbrev pub row_fits : List Column → Result (List Datum) Fault → Bool
row_fits columns (Ok row) = is_none (row_fault columns row)
row_fits columns (Err fault) = false

-- the text is a row of a table with these columns
abbrev pub is_answered : List Column → List ℕ → Bool
is_answered columns text = row_fits columns (row_of text)

-- ---- the line of a row that has no answer

-- `unreadable`, the place of the fault and its name, or `invalid` and the fault
abbrev pub bad_line : BadRow → List ℕ
bad_line (Unreadable error) = counted (codes "unreadable") error.place ++ 32 ∷ kind_name error.kind
bad_line (Invalid fault) = codes "invalid " ++ fault_words fault

-- the line of a row that is not read, for this fault
pub record IsUnreadable (fault : Fault) (line : List ℕ) : Type 0 where
  pub error : ReadError
  pub tells : ReportsFault error fault
  pub is : line ≡ bad_line (Unreadable error)

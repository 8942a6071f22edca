-- What `eval` answers: the first part of its input is a catalog, and the second has rows of one of its tables, one a
-- line.
use Rattle.std.specs.Prelude.{◌≡◌, ◌⊎◌, ℕ, if◌then◌else◌, List, [], ◌∷◌, ◌++◌, Option, Some, None, slice_get, Result, Ok, Err}
use Rattle.std.specs.List.{list_all}
use Rattle.filter_tree.specs.Datum.{Datum}
use Rattle.filter_tree.specs.Valid.{row_fault}
use Rattle.filter_tree.specs.declared.table.Column.{Column}
use Rattle.filter_tree.specs.declared.table.Table.{Table}
use Rattle.filter_tree.specs.declared.validity.RowFault.{RowFault}
use Rattle.pub_catalog.specs.CatalogView.{catalog_view}
use Rattle.sql_reader.specs.Reading.{Fault}
use Rattle.sql_reader.specs.Rows.{row_of}
use Rattle.pub_reader.specs.Statements.{catalog_by}
use Rattle.sql_reader.specs.Written.{as_filter}
use Rattle.pub_catalog.specs.declared.catalog.Catalog.{Catalog}
use Rattle.commands.specs.BadCatalogs.{IsBadCatalog}
use Rattle.commands.specs.Eval.Answers.{line_of}
use Rattle.commands.specs.Eval.BadRows.{IsUnreadable, bad_line, is_answered}
use Rattle.commands.specs.Eval.Carriers.{CarrierOf, carriers_of}
use Rattle.commands.specs.declared.eval.bad_row.BadRow.TheVariants.{Invalid}
use Rattle.commands.specs.Eval.Inserts.{insert_line}
use Rattle.commands.specs.Parts.{CutOnce, two_parts, lines_of}
use Rattle.commands.specs.Eval.Tables.{table_named_by}
use Rattle.commands.specs.declared.eval.row_output.RowOutput.{RowOutput}
use Rattle.commands.specs.declared.eval.row_output.RowOutput.TheVariants as q
use Rattle.commands.specs.Output.{Ends, Writes}
use Rattle.commands.specs.declared.failure.Failure.{Failure}
use Rattle.commands.specs.declared.failure.InputFault.{InputFault}
use Rattle.commands.specs.declared.failure.InputFault.TheVariants as i
use Rattle.commands.specs.declared.failure.Status.{Status}
use Rattle.commands.specs.declared.failure.Status.TheVariants.{Done, Refused}

-- all rows have an answer, or some have none
abbrev pub status_of : List Column → List (List ℕ) → Status
status_of columns rows = if list_all (is_answered columns) rows then Done else Refused

-- ---- lines

-- what the publications say of a row that fits, or its Insert message
abbrev pub row_said : RowOutput → ℕ → List Datum → List CarrierOf → List ℕ
row_said q.Answers number row carriers = line_of row carriers
row_said q.Insert number row carriers = insert_line number row carriers

-- the line of a row that is read
abbrev pub line_by : Option RowFault → List ℕ → List ℕ
line_by None line = line
line_by (Some fault) line = bad_line (Invalid fault)

module _ (wanted : RowOutput) (number : ℕ) (carriers : List CarrierOf) (columns : List Column) where
  -- the line of a row that fits is what is said of it; of another, why it does not fit, or is not read
  abbrev pub IsLineOf : Result (List Datum) Fault → List ℕ → Type 0
  IsLineOf (Ok row) line = line ≡ line_by (row_fault columns row) (row_said wanted number row carriers)
  IsLineOf (Err fault) line = IsUnreadable fault line

  abbrev pub IsLine : List ℕ → List ℕ → Type 0
  IsLine text line = IsLineOf (row_of text) line

  -- a line for each row, in the order of the rows
  pub data AreLines : List (List ℕ) → List (List ℕ) → Type 0 where
    NoRow : AreLines [] []
    OneMore : (rows lines : List (List ℕ)) (row line : List ℕ) → AreLines rows lines → IsLine row line
        → AreLines (rows ++ row ∷ []) (lines ++ line ∷ [])

  -- the lines are those of the first rows, by which the status goes, and the other rows are left
  pub record AreFirstLines (rows left lines : List (List ℕ)) (status : Status) : Type 0 where
    pub first : List (List ℕ)
    pub split : rows ≡ first ++ left
    pub are : AreLines first lines
    pub goes_by : status ≡ status_of columns first

  -- some row is left
  pub record AreSomeLines (rows lines : List (List ℕ)) : Type 0 where
    pub row : List ℕ
    pub later : List (List ℕ)
    pub status : Status
    pub first : AreFirstLines rows (row ∷ later) lines status

  -- a line for each row is written, as far as memory and the writer go
  abbrev pub WritesRows : List (List ℕ) → Option (List ℕ) → Option (List ℕ) → Result Status Failure → Type 0
  WritesRows rows old new result = Writes (AreFirstLines rows []) (AreSomeLines rows) old new result

-- ---- what is answered

-- The input has two parts, the first is a catalog, it has the table, and the lines are those of the first rows of the
-- second. The other rows are left.
pub record IsEvaluation (wanted : RowOutput) (input word : List ℕ) (left lines : List (List ℕ)) (status : Status) :
    Type 0 where
  pub cut : CutOnce
  pub catalog : Catalog
  pub number : ℕ
  pub table : Table
  pub parts : two_parts input ≡ Some cut
  pub reads : catalog_by as_filter cut.part ≡ Ok (catalog_view catalog)
  pub named : table_named_by word catalog.tables.items ≡ Some number
  pub found : slice_get catalog.tables.items number ≡ Some table
  pub rows : AreFirstLines wanted number (carriers_of number catalog.publications.items) table.columns
      (lines_of cut.rest) left lines status

-- some row is left
pub record IsBegunEvaluation (wanted : RowOutput) (input word : List ℕ) (lines : List (List ℕ)) : Type 0 where
  pub row : List ℕ
  pub later : List (List ℕ)
  pub status : Status
  pub first : IsEvaluation wanted input word (row ∷ later) lines status

-- ---- why there is no answer

-- the input has two parts, and the first is a catalog that lacks the table
pub record IsUnknown (input word : List ℕ) : Type 0 where
  pub cut : CutOnce
  pub catalog : Catalog
  pub parts : two_parts input ≡ Some cut
  pub reads : catalog_by as_filter cut.part ≡ Ok (catalog_view catalog)
  pub unknown : table_named_by word catalog.tables.items ≡ None

abbrev pub IsEvalFault : List ℕ → List ℕ → InputFault → Type 0
IsEvalFault input word i.Unread = ⊥
IsEvalFault input word i.Parts = two_parts input ≡ None
IsEvalFault input word (i.Catalog error) = IsBadCatalog input error
IsEvalFault input word (i.Table name) = IsUnknown input word × (name.now ≡ word)
IsEvalFault input word (i.Certificate line error) = ⊥
IsEvalFault input word (i.Script error) = ⊥

-- ---- what is written

-- the rows are answered, as far as memory and the writer go, or the input has a fault and nothing is written
abbrev pub EndsEvaluation : RowOutput → List ℕ → List ℕ → Option (List ℕ) → Option (List ℕ) → Result Status Failure
    → Type 0
EndsEvaluation wanted input word old new result =
    Ends (IsEvaluation wanted input word []) (λ lines. (lines ≡ []) ⊎ IsBegunEvaluation wanted input word lines)
    (IsEvalFault input word) old new result

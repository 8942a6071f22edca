-- What is printed of the rows of a table of a catalog, over the code's own record of the table and the publications
-- that carry it.
use Rattle.std.specs.Prelude.{ℕ, List, Option, Result, map}
use Rattle.filter_tree.specs.Datum.{Datum}
use Rattle.commands.specs.Eval.Carriers.{CarrierOf, carrier_view}
use Rattle.commands.specs.Eval.Evaluation.{IsLine, WritesRows, row_said}
use Rattle.commands.specs.declared.eval.row_output.RowOutput.{RowOutput}
use Rattle.commands.specs.declared.eval.tables.CatalogTable.{CatalogTable}
use Rattle.commands.specs.declared.failure.Failure.{Failure}
use Rattle.commands.specs.declared.failure.Status.{Status}

abbrev pub carriers_in : CatalogTable → List CarrierOf
carriers_in carried = map carrier_view carried.carriers.now

-- what is wanted of a row that fits
abbrev pub row_said_in : RowOutput → CatalogTable → List Datum → List ℕ
row_said_in wanted carried row = row_said wanted carried.number row (carriers_in carried)

abbrev pub IsLineIn : RowOutput → CatalogTable → List ℕ → List ℕ → Type 0
IsLineIn wanted carried text line =
    IsLine wanted carried.number (carriers_in carried) carried.table.now.columns text line

abbrev pub WritesRowsIn : RowOutput → CatalogTable → List (List ℕ) → Option (List ℕ) → Option (List ℕ)
    → Result Status Failure → Type 0
WritesRowsIn wanted carried rows old new result =
    WritesRows wanted carried.number (carriers_in carried) carried.table.now.columns rows old new result

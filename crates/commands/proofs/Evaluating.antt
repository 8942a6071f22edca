-- What `eval` answers, from what its steps gave.
use Rattle.std.proofs.Common.{◌≡◌, ℕ, inr, ◌⊎◌, List, [], ◌∷◌, Option, Some, Result, Ok, slice_get, subst}
use Rattle.filter_tree.specs.declared.table.Table.{Table}
use Rattle.pub_catalog.specs.CatalogView.{catalog_view}
use Rattle.pub_reader.specs.Statements.{catalog_by}
use Rattle.sql_reader.specs.Written.{as_filter}
use Rattle.pub_catalog.specs.declared.catalog.Catalog.{Catalog}
use Rattle.commands.proofs.Writing.{ends_as}
use Rattle.commands.specs.Eval.Carriers.{CarrierOf, carriers_of}
use Rattle.commands.specs.Eval.Evaluation.{AreFirstLines, AreSomeLines, IsBegunEvaluation, IsEvaluation, IsEvalFault, WritesRows}
use Rattle.commands.specs.Eval.Tables.{table_named_by}
use Rattle.commands.specs.Output.{Ends}
use Rattle.commands.specs.Parts.{CutOnce, two_parts, lines_of}
use Rattle.commands.specs.declared.eval.row_output.RowOutput.{RowOutput}
use Rattle.commands.specs.declared.failure.Failure.{Failure}
use Rattle.commands.specs.declared.failure.Status.{Status}

-- the rows were written, or writing stopped
pub evaluated : (wanted : RowOutput) (input word : List ℕ) (old new : Option (List ℕ)) (cut : CutOnce)
    (catalog : Catalog) (number : ℕ) (table : Table) (carriers : List CarrierOf)
    → carriers ≡ carriers_of number catalog.publications.items → two_parts input ≡ Some cut
    → catalog_by as_filter cut.part ≡ Ok (catalog_view catalog) → table_named_by word catalog.tables.items ≡ Some number
    → slice_get catalog.tables.items number ≡ Some table
    → (result : Result Status Failure)
    → WritesRows wanted number carriers table.columns (lines_of cut.rest) old new result
    → Ends (λ lines status. IsEvaluation wanted input word [] lines status)
    (λ lines. (lines ≡ []) ⊎ IsBegunEvaluation wanted input word lines) (IsEvalFault input word) old new result
evaluated wanted input word old new cut catalog number table carriers same parts reads named found result writes =
    let rows = lines_of cut.rest in
    let of_rows : (left lines : List (List ℕ)) (status : Status)
    → AreFirstLines wanted number carriers table.columns rows left lines status
    → IsEvaluation wanted input word left lines status =
    λ left lines status first. record {
      cut = cut;
      catalog = catalog;
      number = number;
      table = table;
      parts = parts;
      reads = reads;
      named = named;
      found = found;
      rows = subst (λ (c : List CarrierOf). AreFirstLines wanted number c table.columns rows left lines status) same
          first;
    } in
    ends_as (AreFirstLines wanted number carriers table.columns rows [])
    (λ lines status. IsEvaluation wanted input word [] lines status)
    (AreSomeLines wanted number carriers table.columns rows)
    (λ lines. (lines ≡ []) ⊎ IsBegunEvaluation wanted input word lines) (IsEvalFault input word)
    (of_rows [])
    (λ lines some. inr (record {
      row = some.row;
      later = some.later;
      status = some.status;
      first =
          of_rows (some.row ∷ some.later) lines some.status some.first;
    }))
    old new result writes

-- The line of a row that has no answer says why.
use Rattle.std.proofs.Common.{◌≡◌, ℕ, List, Option, Some, None, false, refl, sym, ap, subst, ◌∙◌}
use Rattle.std.specs.Prelude.{Result, Ok, Err, is_none}
use Rattle.filter_tree.specs.Datum.{Datum}
use Rattle.filter_tree.specs.Valid.{row_fault}
use Rattle.filter_tree.specs.declared.table.Column.{Column}
use Rattle.filter_tree.specs.declared.validity.RowFault.{RowFault}
use Rattle.commands.specs.Eval.Carriers.{CarrierOf}
use Rattle.filter_tree.specs.Memory.{TellsFault}
use Rattle.sql_reader.specs.Reading.{Fault, fault_or_none}
use Rattle.sql_reader.specs.Rows.{row_of}
use Rattle.sql_reader.specs.ErrorKinds.{ErrorKindOf, wrong_of}
use Rattle.sql_reader.specs.declared.error.ReadError.{ReadError}
use Rattle.commands.specs.Eval.BadRows.{IsReading, bad_line, is_out_of_memory}
use Rattle.commands.specs.Eval.Evaluation.{IsLine, IsLineOf, line_by, row_said}
use Rattle.commands.specs.declared.eval.row_output.RowOutput.{RowOutput}
use Rattle.commands.specs.declared.eval.bad_row.BadRow.{BadRow}
use Rattle.commands.specs.declared.eval.bad_row.BadRow.TheVariants.{Unreadable, Invalid}

module _ (wanted : RowOutput) (number : ℕ) (carriers : List CarrierOf) (columns : List Column) where
  unreadable_line : (error : ReadError) (wrong : Option ErrorKindOf) (outcome : Result (List Datum) Fault)
      (line : List ℕ) → wrong_of error.kind ≡ wrong → is_none (fault_or_none error.place wrong) ≡ false
      → TellsFault (fault_or_none error.place wrong) outcome → line ≡ bad_line (Unreadable error)
      → IsLineOf wanted number carriers columns outcome line
  unreadable_line error None outcome line is known tells same = absurd cc
  unreadable_line error (Some wrong) outcome line is known tells same =
      subst (λ (o : Result (List Datum) Fault). IsLineOf wanted number carriers columns o line) (sym tells)
      (record { error = error; tells = (refl, is); is = same })

  invalid_line : (row : List Datum) (wrong : RowFault) (outcome : Result (List Datum) Fault) (line : List ℕ)
      → outcome ≡ Ok row → row_fault columns row ≡ Some wrong
      → line ≡ bad_line (Invalid wrong) → IsLineOf wanted number carriers columns outcome line
  invalid_line row wrong outcome line read bad same =
      subst (λ (o : Result (List Datum) Fault). IsLineOf wanted number carriers columns o line) (sym read)
      (same ∙ sym (ap (λ (f : Option RowFault). line_by f (row_said wanted number row carriers)) bad))

  -- a row that has no answer has the line of its fault
  pub bad_row_line : (text line : List ℕ) (bad : BadRow) → IsReading columns text (Err bad)
      → is_out_of_memory bad ≡ false → line ≡ bad_line bad → IsLine wanted number carriers columns text line
  bad_row_line text line (Unreadable error) reading known same =
      unreadable_line error (wrong_of error.kind) (row_of text) line refl known reading same
  bad_row_line text line (Invalid wrong) reading known same =
      invalid_line reading.0 wrong (row_of text) line reading.1 reading.2 same

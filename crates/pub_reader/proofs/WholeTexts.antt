-- What is read from a whole text is what its rule reads; nothing is stated about what is left.
use Rattle.std.proofs.Common.{ap, Result, Ok, Err}
use Rattle.std.specs.Prelude.{Option, Some, None}
use Rattle.filter_tree.specs.Memory.{TellsFault}
use Rattle.sql_reader.specs.declared.error.ReadError.{ReadError}
use Rattle.sql_reader.specs.Items.{Items}
use Rattle.sql_reader.specs.Reading.{Fault, Outcome, Reads, Answers, read_fault}
use Rattle.sql_reader.specs.Rows.{without_rest}

tells_of_whole : {B : Type 0} (fault : Option Fault) (outcome : Outcome B) → TellsFault fault outcome
    → TellsFault fault (without_rest outcome)
tells_of_whole None outcome h = tt
tells_of_whole (Some fault) outcome h = ap without_rest h

pub whole_read : {A B : Type 0} (view : A → B) (outcome : Outcome B) (result : Result A ReadError) (rest : Items)
    → Reads view outcome result rest → Answers view (without_rest outcome) result
whole_read view outcome (Ok value) rest h = ap without_rest h
whole_read view outcome (Err error) rest h = tells_of_whole (read_fault error) outcome h

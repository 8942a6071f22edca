-- Why the program ends without an answer, the lines that say so, and the exit statuses, in the program's own format.
use Rattle.std.specs.Prelude.{ℕ, if◌then◌else◌, List, [], ◌∷◌, ◌++◌, is_none, codes}
use Rattle.std.specs.String.{string_bytes}
use Rattle.split_cert.specs.ErrorNames.{error_name}
use Rattle.sql_reader.specs.KindNames.{kind_name}
use Rattle.sql_reader.specs.Reading.{read_fault}
use Rattle.sql_reader.specs.declared.error.ReadError.{ReadError}
use Rattle.commands.specs.Names.{counted}
use Rattle.commands.specs.declared.failure.Failure.{Failure}
use Rattle.commands.specs.declared.failure.Failure.TheVariants as f
use Rattle.commands.specs.declared.failure.InputFault.{InputFault}
use Rattle.commands.specs.declared.failure.InputFault.TheVariants as i
use Rattle.commands.specs.declared.failure.Status.{Status}
use Rattle.commands.specs.declared.failure.Status.TheVariants as s

-- ---- exit statuses

abbrev pub exit_status : Status → ℕ
exit_status s.Done = 0
exit_status s.Refused = 1
exit_status s.CommandLine = 2
exit_status s.Input = 3
exit_status s.Output = 4
exit_status s.OutOfMemory = 5

abbrev pub status_of_failure : Failure → Status
status_of_failure (f.CommandLine text) = s.CommandLine
status_of_failure (f.Input fault) = s.Input
status_of_failure f.Output = s.Output
status_of_failure f.OutOfMemory = s.OutOfMemory

-- ---- lines

abbrev pub fault_line : InputFault → List ℕ
fault_line i.Unread = codes "input"
fault_line i.Parts = codes "input"
fault_line (i.Catalog error) = counted (codes "catalog") error.place ++ 32 ∷ kind_name error.kind
fault_line (i.Table word) = codes "table " ++ word.now
fault_line (i.Certificate line error) = counted (codes "certificate") line ++ 32 ∷ error_name error
fault_line (i.Script error) = counted (codes "script") error.place ++ 32 ∷ kind_name error.kind

-- A usage error has a line, and then the text that says why. If the writer failed, nothing more is written.
abbrev pub failure_lines : Failure → List (List ℕ)
failure_lines (f.CommandLine text) = codes "command line" ∷ string_bytes text ∷ []
failure_lines (f.Input fault) = fault_line fault ∷ []
failure_lines f.Output = []
failure_lines f.OutOfMemory = codes "out of memory" ∷ []

-- the failure for an error of read_catalog: the catalog's fault, or out of memory
abbrev pub failure_of_read : ReadError → Failure
failure_of_read error = if is_none (read_fault error) then f.OutOfMemory else f.Input (i.Catalog error)

-- How the program reports a failure, and with which status.
use Rattle.std.specs.Prelude.{◌≡◌, ◌⊎◌, ℕ, List, Option}
use Rattle.std.specs.Io.KnownBytes.{Appends}
use Rattle.commands.specs.Failures.{failure_lines, status_of_failure}
use Rattle.commands.specs.Output.{WritesFirst, text_of}
use Rattle.commands.specs.declared.failure.Failure.{Failure}
use Rattle.commands.specs.declared.failure.Failure.TheVariants as f
use Rattle.commands.specs.declared.failure.Status.{Status}
use Rattle.commands.specs.declared.failure.Status.TheVariants.{Output}

-- a text is written, and the status is this; or a prefix of it, if the writer fails
abbrev pub IsWritten : List ℕ → Status → Option (List ℕ) → Option (List ℕ) → Status → Type 0
IsWritten text expected old new status =
    ((status ≡ expected) × Appends old new text) ⊎ ((status ≡ Output) × WritesFirst text old new)

abbrev pub Reports : Failure → Option (List ℕ) → Option (List ℕ) → Status → Type 0
Reports failure old new status = IsWritten (text_of (failure_lines failure)) (status_of_failure failure) old new status

-- A failure is reported, or out of memory in its place. If the writer failed before, nothing more is written.
abbrev pub IsReport : Failure → Option (List ℕ) → Option (List ℕ) → Status → Type 0
IsReport (f.CommandLine why) old new status =
    Reports (f.CommandLine why) old new status ⊎ Reports f.OutOfMemory old new status
IsReport (f.Input fault) old new status = Reports (f.Input fault) old new status ⊎ Reports f.OutOfMemory old new status
IsReport f.OutOfMemory old new status = Reports f.OutOfMemory old new status
IsReport f.Output old new status = (status ≡ Output) × (new ≡ old)

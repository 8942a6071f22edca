-- Why there is no verdict on a sharding by the texts of its certificates: the first line that is no certificate, or out
-- of memory. The format is this program's own.
use Rattle.std.specs.Prelude.{◌≡◌, ℕ, List, Some, Result, Ok, Err}
use Rattle.shard_checker.specs.Texts.{text_fault}
use Rattle.shard_checker.specs.declared.error.CheckError.{CheckError}
use Rattle.shard_checker.specs.declared.error.CheckError.TheVariants as c
use Rattle.shard_checker.specs.declared.text_error.TextError.{TextError}
use Rattle.shard_checker.specs.declared.text_error.TextError.TheVariants as t
use Rattle.commands.specs.declared.failure.Failure.{Failure}
use Rattle.commands.specs.declared.failure.Failure.TheVariants as f
use Rattle.commands.specs.declared.failure.InputFault.TheVariants as i

-- the failure for an error of the check; a refusal is an answer
abbrev pub refusal_in_check : CheckError → Result CheckError Failure
refusal_in_check c.OutOfMemory = Err f.OutOfMemory
refusal_in_check refusal = Ok refusal

abbrev pub refusal_in : TextError → Result CheckError Failure
refusal_in (t.Text line error) = Err (f.Input (i.Certificate line error))
refusal_in (t.Check error) = refusal_in_check error

-- the check stops at the first line that is no certificate, or because memory ran out
abbrev pub IsOfLines : List (List ℕ) → Failure → Type 0
IsOfLines lines (f.Input (i.Certificate number error)) = text_fault 1 lines ≡ Some (t.Text number error)
IsOfLines lines f.OutOfMemory = Unit {0}
IsOfLines lines _ = ⊥

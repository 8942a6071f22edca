-- What a check returns: no error if there is no reason to refuse, and otherwise the first reason. Certificates are
-- specific to this project, and no section of PostgreSQL's documentation describes them.
use Rattle.std.specs.Prelude.{◌≡◌, ◌≢◌, Option, Some, None, Result, Ok, Err, IfErr}
use Rattle.shard_checker.specs.declared.error.CheckError.{CheckError}
use Rattle.shard_checker.specs.declared.error.CheckError.TheVariants.{OutOfMemory}

-- the result is the refusal
abbrev pub Finds : {A : Type 0} → Option CheckError → Result A CheckError → Type 0
Finds refusal (Ok value) = refusal ≡ None
Finds refusal (Err error) = refusal ≡ Some error

-- the result is the refusal, or out of memory, which may come instead of any other result
abbrev pub Checks : {A : Type 0} → Option CheckError → Result A CheckError → Type 0
Checks refusal (Ok value) = refusal ≡ None
Checks refusal (Err error) = error ≢ OutOfMemory → refusal ≡ Some error

-- the error of a result, if it is one
abbrev pub error_of : {A : Type 0} → Result A CheckError → Option CheckError
error_of (Ok value) = None
error_of (Err error) = Some error

-- either the refusal is still due, or the result is the refusal, or out of memory instead of it
abbrev pub Defers : {A : Type 0} → Option CheckError → Option CheckError → Result A CheckError → Type 0
Defers refusal due (Ok value) = due ≡ refusal
Defers refusal due (Err error) = error ≢ OutOfMemory → refusal ≡ Some error

-- a fact about the refusal, if there is one
abbrev pub IfRefused : {A : Type 0} → Result A CheckError → (CheckError → Type 0) → Type 0
IfRefused result Fact = IfErr result (λ error. error ≢ OutOfMemory → Fact error)

-- The number of a status, and what is written when a failure is reported.
use Rattle.std.proofs.Common.{◌≡◌, ℕ, inl, List, Option, refl, sym, subst}
use denote.Enum.Declared.{tag_of}
use Rattle.commands.specs.Failures.{failure_lines, exit_status, status_of_failure}
use Rattle.commands.specs.Output.{text_of}
use Rattle.commands.specs.Reporting.{IsReport, IsWritten}
use Rattle.commands.specs.contracts.failure.Status.{the_type}
use Rattle.commands.specs.declared.failure.Failure.{Failure}
use Rattle.commands.specs.declared.failure.Failure.TheVariants as f
use Rattle.commands.specs.declared.failure.Status.{Status}
use Rattle.commands.specs.declared.failure.Status.TheVariants.{Done, Refused, CommandLine, Input, Output, OutOfMemory}

pub number_is : (status : Status) → tag_of the_type status ≡ exit_status status
number_is Done = refl
number_is Refused = refl
number_is CommandLine = refl
number_is Input = refl
number_is Output = refl
number_is OutOfMemory = refl

report_of : (failure : Failure) (status : Status) (old new : Option (List ℕ)) → (failure ≡ f.Output → ⊥)
    → IsWritten (text_of (failure_lines failure)) (status_of_failure failure) old new status
    → IsReport failure old new status
report_of (f.CommandLine why) status old new other writes = inl writes
report_of (f.Input fault) status old new other writes = inl writes
report_of f.OutOfMemory status old new other writes = writes
report_of f.Output status old new other writes = absurd (other refl)

-- a failure that is not the writer's
pub report_is : (failure : Failure) (text : List ℕ) (expected status : Status) (old new : Option (List ℕ))
    → (failure ≡ f.Output → ⊥) → text ≡ text_of (failure_lines failure) → expected ≡ status_of_failure failure
    → IsWritten text expected old new status → IsReport failure old new status
report_is failure text expected status old new other is same writes =
    report_of failure status old new other
    (subst (λ (t : Status). IsWritten (text_of (failure_lines failure)) t old new status) same
    (subst (λ (t : List ℕ). IsWritten t expected old new status) is writes))

-- the writer failed before
pub is_silent : (failure : Failure) (old : Option (List ℕ)) → failure ≡ f.Output → IsReport failure old old Output
is_silent failure old h = subst (λ (failure : Failure). IsReport failure old old Output) (sym h) (refl, refl)

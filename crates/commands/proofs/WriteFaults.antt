-- A status says that a writer has failed.
use Rattle.std.proofs.Common.{◌≡◌, Bool, true, false, if◌then◌else◌, sym, subst}
use Rattle.commands.specs.Output.{SaysFault}
use Rattle.commands.specs.declared.failure.Status.{Status}
use Rattle.commands.specs.declared.failure.Status.TheVariants.{Done, Refused}

-- it is that of an answer, and nothing failed
pub answer_says : (all : Bool) (status : Status) (old new : Bool) → status ≡ (if all then Done else Refused) → new ≡ old
    → SaysFault old new status
answer_says true status old new is same = subst (λ (s : Status). SaysFault old new s) (sym is) same
answer_says false status old new is same = subst (λ (s : Status). SaysFault old new s) (sym is) same

-- What a command line leads to: it is answered, or it requests to serve; and how a run finishes.
use Rattle.std.specs.Prelude.{◌≡◌, ℕ, Bool, false, List, Option, Result}
use Rattle.cli.specs.CommandLine.{IsRequest}
use Rattle.cli.specs.Outcomes.{NumberSaysFault}
use Rattle.cli.specs.Requests.{CanServe}
use Rattle.cli.specs.Runs.{IsProgramEnding, IsProgramOutcome, IsProgramRun}
use Rattle.cli.specs.declared.program.Course.{Course}
use Rattle.cli.specs.declared.program.Course.TheVariants as c
use Rattle.cli.specs.declared.requests.Request.{Request}
use Rattle.commands.specs.Output.{EndsByFault, SaysFault}
use Rattle.commands.specs.declared.failure.Failure.{Failure}
use Rattle.commands.specs.declared.failure.Failure.TheVariants as f
use Rattle.commands.specs.declared.failure.Status.{Status}

-- the arguments request this, which is to serve; the input is unchanged, and nothing is written
pub record IsToServe {I : Type 0} (words : List (List ℕ)) (input left : I) (old new : Option (List ℕ))
    (request : Request) : Type 0 where
  pub asks : IsRequest words request
  pub needs : CanServe false request → ⊥
  pub unread : left ≡ input
  pub unwritten : new ≡ old

-- an answer is right whether or not the program can serve
abbrev pub IsCourse : {I : Type 0} → List (List ℕ) → Bool → Option (List ℕ) → I → Option (List ℕ) → Option (List ℕ)
    → Course I → Type 0
IsCourse words may_fail known input old new (c.Ended ending) =
    (serves : Bool) → IsProgramEnding serves words may_fail known old new ending
IsCourse words may_fail known input old new (c.Serve request left) = IsToServe words input left old new request

-- whether the writer fails; it does not if the request is to serve
abbrev pub CourseSaysFault : {I : Type 0} → Bool → Bool → Course I → Type 0
CourseSaysFault old new (c.Ended ending) = EndsByFault old new ending
CourseSaysFault old new (c.Serve request left) = new ≡ old

-- after any ending, what is written is right for the request
abbrev pub Concludes : Result Status Failure → Option (List ℕ) → Option (List ℕ) → Status → Type 0
Concludes ending mid new status =
    (serves : Bool) (words : List (List ℕ)) (may_fail : Bool) (known old : Option (List ℕ))
    → IsProgramEnding serves words may_fail known old mid ending
    → IsProgramOutcome serves words may_fail known old new status

-- and whether the writer fails
abbrev pub ConcludesFault : Result Status Failure → Bool → Bool → Status → Type 0
ConcludesFault ending mid new status = (old : Bool) → EndsByFault old mid ending → SaysFault old new status

-- the same of the number of a status
abbrev pub Finishes : Result Status Failure → Option (List ℕ) → Option (List ℕ) → ℕ → Type 0
Finishes ending mid new number =
    (serves : Bool) (words : List (List ℕ)) (may_fail : Bool) (known old : Option (List ℕ))
    → IsProgramEnding serves words may_fail known old mid ending
    → IsProgramRun serves words may_fail known old new number

abbrev pub FinishesFault : Result Status Failure → Bool → Bool → ℕ → Type 0
FinishesFault ending mid new number = (old : Bool) → EndsByFault old mid ending → NumberSaysFault old new number

-- a request to serve is reported as a usage error, or memory ran out
abbrev pub IsUnserved : Failure → Type 0
IsUnserved (f.CommandLine why) = Unit {0}
IsUnserved f.OutOfMemory = Unit {0}
IsUnserved (f.Input fault) = ⊥
IsUnserved f.Output = ⊥

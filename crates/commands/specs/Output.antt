-- What is written to a writer: lines, each with its newline, or a prefix of their bytes if the writer fails. How an
-- answer is written line by line, where this may stop, and how a result says whether the writer has failed. The format
-- is this program's own.
use Rattle.std.specs.Prelude.{◌≡◌, ℕ, ◌⊎◌, Bool, true, List, [], ◌∷◌, ◌++◌, Option, Result, Ok, Err}
use Rattle.std.specs.Io.KnownBytes.{Appends}
use Rattle.std.specs.List.{flat_map}
use Rattle.commands.specs.Failures.{status_of_failure}
use Rattle.commands.specs.declared.failure.Failure.{Failure}
use Rattle.commands.specs.declared.failure.Failure.TheVariants as f
use Rattle.commands.specs.declared.failure.InputFault.{InputFault}
use Rattle.commands.specs.declared.failure.Status.{Status}
use Rattle.commands.specs.declared.failure.Status.TheVariants as s

-- a line with its newline
abbrev pub ended : List ℕ → List ℕ
ended line = line ++ 10 ∷ []

abbrev pub text_of : List (List ℕ) → List ℕ
text_of lines = flat_map ended lines

-- a writer's bytes grow by the first bytes of a text
pub record WritesFirst (text : List ℕ) (old new : Option (List ℕ)) : Type 0 where
  pub written : List ℕ
  pub rest : List ℕ
  pub is : text ≡ written ++ rest
  pub appends : Appends old new written

-- The writing of a text stops: before its first byte, because memory ran out, or after some of its first bytes, because
-- the writer failed.
abbrev pub StopsText : List ℕ → Option (List ℕ) → Option (List ℕ) → Failure → Type 0
StopsText text old new f.Output = WritesFirst text old new
StopsText text old new f.OutOfMemory = new ≡ old
StopsText text old new (f.CommandLine why) = ⊥
StopsText text old new (f.Input fault) = ⊥

-- ---- whether the writer fails, which a writer may say of itself before and after

-- with the status of a failed write, the writer has failed; with another one, this is unchanged
abbrev pub SaysFault : Bool → Bool → Status → Type 0
SaysFault old new s.Output = new ≡ true
SaysFault old new status = new ≡ old

-- the same of a result with a status
abbrev pub EndsByFault : Bool → Bool → Result Status Failure → Type 0
EndsByFault old new (Ok status) = SaysFault old new status
EndsByFault old new (Err failure) = SaysFault old new (status_of_failure failure)

-- the same of a result without one
abbrev pub TellsFault : {A : Type 0} → Bool → Bool → Result A Failure → Type 0
TellsFault old new (Ok value) = new ≡ old
TellsFault old new (Err failure) = SaysFault old new (status_of_failure failure)

-- ---- answers

-- `IsWhole` says of lines and a status that they are an answer, and `IsBegun` of lines that they are the first of an
-- answer and that others are missing.
module _ (IsWhole : List (List ℕ) → Status → Type 0) (IsBegun : List (List ℕ) → Type 0) where
  -- the whole answer is written
  pub record WritesWhole (old new : Option (List ℕ)) (status : Status) : Type 0 where
    pub lines : List (List ℕ)
    pub whole : IsWhole lines status
    pub appends : Appends old new (text_of lines)

  -- the first lines of an answer are written, but not all
  pub record WritesBegun (old new : Option (List ℕ)) : Type 0 where
    pub lines : List (List ℕ)
    pub begun : IsBegun lines
    pub appends : Appends old new (text_of lines)

  -- the first bytes of an answer are written, or those of its first lines
  pub record WritesPart (old new : Option (List ℕ)) : Type 0 where
    pub lines : List (List ℕ)
    pub part : IsBegun lines ⊎ ((status : Status) × IsWhole lines status)
    pub first : WritesFirst (text_of lines) old new

  -- an answer is written, as far as memory and the writer go
  abbrev pub Writes : Option (List ℕ) → Option (List ℕ) → Result Status Failure → Type 0
  Writes old new (Ok status) = WritesWhole old new status
  Writes old new (Err f.OutOfMemory) = WritesBegun old new
  Writes old new (Err f.Output) = WritesPart old new
  Writes old new (Err (f.CommandLine why)) = ⊥
  Writes old new (Err (f.Input fault)) = ⊥

  -- or nothing is written, and the input has this fault
  abbrev pub Ends : (InputFault → Type 0) → Option (List ℕ) → Option (List ℕ) → Result Status Failure → Type 0
  Ends IsThere old new (Ok status) = WritesWhole old new status
  Ends IsThere old new (Err f.OutOfMemory) = WritesBegun old new
  Ends IsThere old new (Err f.Output) = WritesPart old new
  Ends IsThere old new (Err (f.CommandLine why)) = ⊥
  Ends IsThere old new (Err (f.Input fault)) = IsThere fault × (new ≡ old)

-- What a run writes, and its exit status: an output that is right for a request and an input, or a prefix of one if a
-- write fails. The format is this program's own.
use Rattle.std.specs.Prelude.{◌≡◌, ◌≢◌, ℕ, ◌⊎◌, Bool, true, List, [], ◌∷◌, ◌++◌, Option, Result, Ok, Err, codes}
use Rattle.std.specs.Io.KnownBytes.{Appends}
use Rattle.commands.specs.Failures.{fault_line, exit_status}
use Rattle.commands.specs.Output.{WritesFirst, text_of}
use Rattle.commands.specs.declared.failure.Failure.{Failure}
use Rattle.commands.specs.declared.failure.Failure.TheVariants as f
use Rattle.commands.specs.declared.failure.InputFault.{InputFault}
use Rattle.commands.specs.declared.failure.InputFault.TheVariants as i
use Rattle.commands.specs.declared.failure.Status.{Status}
use Rattle.commands.specs.declared.failure.Status.TheVariants.{Done, Refused, CommandLine, Input, Output, OutOfMemory}

-- A request: which lines answer it with which status, which lines begin such an answer, which faults the input has, and
-- that it cannot be read; or a request for the help or the version; or a usage error.
pub record Asked : Type 1 where
  pub Answers : List (List ℕ) → Status → Type 0
  pub Begins : List (List ℕ) → Type 0
  pub IsInputFault : InputFault → Type 0
  pub IsUnread : Type 0
  pub AsksHelp : Type 0
  pub IsMisworded : Type 0

module _ (asked : Asked) where
  -- an answer that is cut short: no line of it, or its first lines
  abbrev pub IsCutShort : List (List ℕ) → Type 0
  IsCutShort lines = (lines ≡ []) ⊎ asked.Begins lines

  -- the input has this fault
  abbrev pub IsReason : InputFault → Type 0
  IsReason i.Unread = asked.IsUnread
  IsReason i.Parts = asked.IsInputFault i.Parts
  IsReason (i.Catalog error) = asked.IsInputFault (i.Catalog error)
  IsReason (i.Table name) = asked.IsInputFault (i.Table name)
  IsReason (i.Certificate line error) = asked.IsInputFault (i.Certificate line error)
  IsReason (i.Script error) = asked.IsInputFault (i.Script error)

  -- ---- the right outputs, if no write fails

  -- Status 0 or 1: the answer. 0: some text, if the help or the version is requested. 2: a line, and some text. 3: the
  -- line of a fault of the input. 5: no line of the answer or its first ones, and the line `out of memory`.
  pub data IsOutput : Status → List ℕ → Type 0 where
    Answered : (lines : List (List ℕ)) (status : Status) → asked.Answers lines status
        → IsOutput status (text_of lines)
    Shown : (text : List ℕ) → asked.AsksHelp → IsOutput Done text
    Misworded : (text : List ℕ) → asked.IsMisworded → IsOutput CommandLine (text_of (codes "command line" ∷ text ∷ []))
    Rejected : (fault : InputFault) → IsReason fault → IsOutput Input (text_of (fault_line fault ∷ []))
    CutShort : (lines : List (List ℕ)) → IsCutShort lines
        → IsOutput OutOfMemory (text_of (lines ++ codes "out of memory" ∷ []))

  -- ---- what is written

  pub record WritesOutput (old new : Option (List ℕ)) (status : Status) : Type 0 where
    pub text : List ℕ
    pub is : IsOutput status text
    pub appends : Appends old new text

  pub record WritesFirstOutput (old new : Option (List ℕ)) : Type 0 where
    pub status : Status
    pub text : List ℕ
    pub is : IsOutput status text
    pub first : WritesFirst text old new

  -- if a write fails, a prefix of an output, and otherwise all of one that is right for the status
  abbrev pub IsOutcome : Option (List ℕ) → Option (List ℕ) → Status → Type 0
  IsOutcome old new Output = WritesFirstOutput old new
  IsOutcome old new Done = WritesOutput old new Done
  IsOutcome old new Refused = WritesOutput old new Refused
  IsOutcome old new CommandLine = WritesOutput old new CommandLine
  IsOutcome old new Input = WritesOutput old new Input
  IsOutcome old new OutOfMemory = WritesOutput old new OutOfMemory

  -- the same of the number of a status
  pub record IsRun (old new : Option (List ℕ)) (number : ℕ) : Type 0 where
    pub status : Status
    pub numbered : number ≡ exit_status status
    pub outcome : IsOutcome old new status

  -- ---- before a failure is reported

  pub record WritesCutShort (old new : Option (List ℕ)) : Type 0 where
    pub lines : List (List ℕ)
    pub begun : IsCutShort lines
    pub appends : Appends old new (text_of lines)

  -- what is written before the lines of a failure
  abbrev pub IsEnding : Option (List ℕ) → Option (List ℕ) → Result Status Failure → Type 0
  IsEnding old new (Ok status) = WritesOutput old new status
  IsEnding old new (Err (f.CommandLine text)) = asked.IsMisworded × (new ≡ old)
  IsEnding old new (Err (f.Input fault)) = IsReason fault × (new ≡ old)
  IsEnding old new (Err f.Output) = WritesFirstOutput old new
  IsEnding old new (Err f.OutOfMemory) = WritesCutShort old new

-- ---- whether the writer fails

-- with the number of a failed write, the writer has failed; with another one, this is unchanged
abbrev pub NumberSaysFault : Bool → Bool → ℕ → Type 0
NumberSaysFault old new number = (number ≡ 4 → new ≡ true) × (number ≢ 4 → new ≡ old)

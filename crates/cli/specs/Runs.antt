-- What a run of the program writes, and its exit status: an output that is right for its arguments and its input, or a
-- prefix of one if the writer or a socket fails.
use Rattle.std.specs.Prelude.{ℕ, Bool, List, Option, Result}
use Rattle.cli.specs.CommandLine.{AsksHelp}
use Rattle.cli.specs.Outcomes as outcomes
use Rattle.cli.specs.Outcomes.{Asked}
use Rattle.cli.specs.Requests.{AnswersWords, BeginsWords, HasInputFault, IsMisworded, LacksInput}
use Rattle.commands.specs.declared.failure.Failure.{Failure}
use Rattle.commands.specs.declared.failure.Status.{Status}

-- what the arguments request of a reader, which may fail or not, in a program that can serve or not
abbrev pub asked_of_words : Bool → List (List ℕ) → Bool → Option (List ℕ) → Asked
asked_of_words serves words may_fail known = record {
  Answers = AnswersWords serves words known may_fail;
  Begins = BeginsWords serves words known;
  IsInputFault = HasInputFault serves words known;
  IsUnread = LacksInput serves words may_fail known;
  AsksHelp = AsksHelp words;
  IsMisworded = IsMisworded serves words;
}

module _ (serves : Bool) (words : List (List ℕ)) (may_fail : Bool) (known : Option (List ℕ)) where
  -- if the writer fails, a prefix of an output, and otherwise all of one that is right for the status
  abbrev pub IsProgramOutcome : Option (List ℕ) → Option (List ℕ) → Status → Type 0
  IsProgramOutcome old new status = outcomes.IsOutcome (asked_of_words serves words may_fail known) old new status

  -- the same of the number of a status
  abbrev pub IsProgramRun : Option (List ℕ) → Option (List ℕ) → ℕ → Type 0
  IsProgramRun old new number = outcomes.IsRun (asked_of_words serves words may_fail known) old new number

  -- what is written before the lines of a failure
  abbrev pub IsProgramEnding : Option (List ℕ) → Option (List ℕ) → Result Status Failure → Type 0
  IsProgramEnding old new result = outcomes.IsEnding (asked_of_words serves words may_fail known) old new result

-- What is requested if clap returns an error.
use Rattle.std.proofs.Common.{◌≡◌, inl, inr, ◌⊎◌, List, sym, subst, ◌∙◌}
use Rattle.std.specs.Prelude.{Result, Ok, Err, IfOk, IfErr}
use Rattle.clap.specs.Words.{IsAmong, Text, fault_of}
use Rattle.clap.specs.declared.error.kind.ErrorKind.{ErrorKind}
use Rattle.clap.specs.declared.error.kind.ErrorKind.TheVariants as kind
use Rattle.cli.specs.CommandLine.{AsksHelp, IsAsking, IsFaulty, IsHelp, IsHelpKind, IsOfError, IsOfWords}
use Rattle.command_tree.specs.Tree.{pgshard}
use Rattle.cli.specs.declared.arguments.Invocation.{Invocation}
use Rattle.cli.specs.declared.arguments.Invocation.TheVariants.{Help, Answer}
use Rattle.commands.specs.declared.failure.Failure.{Failure}
use Rattle.commands.specs.declared.failure.Failure.TheVariants as f

module _ (words : List Text) (found : ErrorKind)
    (faults : (found ≡ kind.OutOfMemory) ⊎ IsAmong found (fault_of pgshard words)) where
  asks_help : IsHelpKind found → AsksHelp words
  asks_help help = elim faults [
    | inl memory ↦ elim help [
      | inl e ↦ let bad : kind.OutOfMemory ≡ kind.DisplayHelp = sym memory ∙ e in absurd (cc)
      | inr e ↦ let bad : kind.OutOfMemory ≡ kind.DisplayVersion = sym memory ∙ e in absurd (cc)
    ]
    | inr among ↦ elim help [
      | inl e ↦ inl (subst (λ (k : ErrorKind). IsAmong k (fault_of pgshard words)) e among)
      | inr e ↦ inr (subst (λ (k : ErrorKind). IsAmong k (fault_of pgshard words)) e among)
    ]
  ]

  is_faulty : (found ≡ kind.OutOfMemory → ⊥) → (found ≡ kind.DisplayHelp → ⊥) → (found ≡ kind.DisplayVersion → ⊥)
      → IsFaulty words
  is_faulty no_memory no_help no_version = elim faults [
    | inl memory ↦ absurd (no_memory memory)
    | inr among ↦ record { found = found; is = among; no_help = no_help; no_version = no_version }
  ]

  help_asked : (asked : Invocation) → IsHelp asked → IsHelpKind found → IsAsking words asked
  help_asked (Help text) is help = asks_help help
  help_asked (Answer request) is help = absurd is

  pub error_asks : (result : Result Invocation Failure) → IfOk result (λ asked. IsHelp asked × IsHelpKind found)
      → IfOk result (IsAsking words)
  error_asks (Ok asked) is = help_asked asked is.0 is.1
  error_asks (Err failure) is = tt

  stopped : (failure : Failure) → IsOfError found failure → IsOfWords words failure
  stopped (f.CommandLine text) is = inl (is_faulty is.0 is.1 is.2)
  stopped f.OutOfMemory is = tt
  stopped (f.Input fault) is = absurd is
  stopped f.Output is = absurd is

  pub error_stops : (result : Result Invocation Failure) → IfErr result (IsOfError found)
      → IfErr result (IsOfWords words)
  error_stops (Ok asked) is = tt
  error_stops (Err failure) is = stopped failure is

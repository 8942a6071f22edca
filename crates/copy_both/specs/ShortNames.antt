-- Names of slots, options and publications have at most 63 bytes ("4.1.1. Identifiers and Key Words"), so that the
-- texts of refusals are short.
use Rattle.std.specs.Prelude.{ℕ, ◌≤◌, List, [], ◌∷◌, length}
use Rattle.copy_both.specs.declared.start_command.OptionValue.{OptionValue}
use Rattle.copy_both.specs.declared.start_command.OptionValue.TheVariants.{Wrong, Unsupported, Version, Publications, Off}
use Rattle.copy_both.specs.declared.start_command.StartCommand.{StartCommand}
use Rattle.copy_both.specs.declared.start_command.StartOption.{StartOption}

abbrev pub IsShort : List ℕ → Type 0
IsShort name = length name ≤ 63

abbrev pub AreShort : List (List ℕ) → Type 0
AreShort [] = Unit {0}
AreShort (name ∷ names) = IsShort name × AreShort names

abbrev pub HasShortValue : OptionValue → Type 0
HasShortValue Wrong = Unit {0}
HasShortValue Unsupported = Unit {0}
HasShortValue Version = Unit {0}
HasShortValue (Publications names) = AreShort names
HasShortValue Off = Unit {0}

pub record IsShortOption (option : StartOption) : Type 0 where
  pub name : IsShort option.name
  pub value : HasShortValue option.value

abbrev pub AreShortOptions : List StartOption → Type 0
AreShortOptions [] = Unit {0}
AreShortOptions (option ∷ options) = IsShortOption option × AreShortOptions options

pub record IsShortCommand (command : StartCommand) : Type 0 where
  pub slot : IsShort command.slot
  pub options : AreShortOptions command.options

-- The text of a command that starts a stream from a logical slot: `START_REPLICATION SLOT name LOGICAL X/X [( option
-- [value] , .. )] [;]` ("55.4. Streaming Replication Protocol"), with keywords in any case.
use Rattle.std.specs.Prelude.{ℕ, ◌+◌, ◌&&◌, Bool, true, false, if◌then◌else◌, List, [], ◌∷◌, take, drop, position, Option, Some, None, codes}
use Rattle.copy_both.specs.declared.start_command.StartCommand.{StartCommand}
use Rattle.copy_both.specs.declared.start_command.StartOption.{StartOption}
use Rattle.copy_both.specs.declared.token.Token.{Token}
use Rattle.copy_both.specs.declared.token.Token.TheVariants.{Value, Open, Semicolon}
use Rattle.copy_both.specs.CommandTokens.{tokens_of, is_close, is_keyword, name_in, token_position, separated}
use Rattle.copy_both.specs.OptionValues.{option_value}

abbrev pub named_option : Option (List ℕ) → Option (List ℕ) → Option StartOption
named_option None text = None
named_option (Some name) text = Some (record { name = name; value = option_value name text })

-- a name, and a value that may be missing
abbrev pub option_in : List Token → Option StartOption
option_in (name ∷ []) = named_option (name_in name) None
option_in (name ∷ Value text ∷ []) = named_option (name_in name) (Some text)
option_in _ = None

-- nothing more, or a semicolon
abbrev pub ends : List Token → Bool
ends [] = true
ends (Semicolon ∷ []) = true
ends _ = false

-- options, and the parenthesis that closes, whose place this is
abbrev pub listed_until : Option ℕ → List Token → Option (List StartOption)
listed_until None tokens = None
listed_until (Some n) tokens = if ends (drop (n + 1) tokens) then separated option_in (take n tokens) else None

abbrev pub listed_options : List Token → Option (List StartOption)
listed_options tokens = listed_until (position is_close tokens) tokens

abbrev pub no_options : List Token → Option (List StartOption)
no_options tokens = if ends tokens then Some [] else None

abbrev pub options_in : List Token → Option (List StartOption)
options_in (Open ∷ tokens) = listed_options tokens
options_in tokens = no_options tokens

abbrev pub command_with : Option (List ℕ) → Option ℕ → Option (List StartOption) → Option StartCommand
command_with (Some slot) (Some position) (Some options) =
    Some (record { slot = slot; position = position; options = options })
command_with (Some slot) (Some position) None = None
command_with (Some slot) None options = None
command_with None position options = None

abbrev pub has_keywords : Token → Token → Token → Bool
has_keywords start slot logical =
    is_keyword (codes "start_replication") start && is_keyword (codes "slot") slot
    && is_keyword (codes "logical") logical

-- the command that these tokens are
abbrev pub command_in : List Token → Option StartCommand
command_in (start ∷ slot ∷ name ∷ logical ∷ place ∷ options) =
    if has_keywords start slot logical then
    command_with (name_in name) (token_position place) (options_in options) else None
command_in _ = None

abbrev pub command_with_tokens : Option (List Token) → Option StartCommand
command_with_tokens None = None
command_with_tokens (Some tokens) = command_in tokens

abbrev pub command_of : List ℕ → Option StartCommand
command_of text = command_with_tokens (tokens_of text)

-- What the value of an option means ("55.5.1. Logical Streaming Replication Parameters"). Only version 1 of the
-- protocol is supported, and a feature that is not supported is accepted if it is off.
use Rattle.std.specs.Prelude.{ℕ, ◌||◌, ◌==◌, Bool, nat_lt, not, if◌then◌else◌, List, length, drop, Option, Some, None, codes}
use Rattle.std.specs.Char.{is_ascii_digit}
use Rattle.std.specs.List.{list_all, prefix_len}
use Rattle.std.specs.Str.{bytes_eq}
use Rattle.copy_both.specs.declared.start_command.OptionValue.{OptionValue}
use Rattle.copy_both.specs.declared.start_command.OptionValue.TheVariants.{Wrong, Unsupported, Version, Publications, Off}
use Rattle.copy_both.specs.declared.token.Token.{Token}
use Rattle.copy_both.specs.CommandTokens.{tokens_of, names_in}

-- the digits after leading zeros
abbrev pub without_zeros : List ℕ → List ℕ
without_zeros digits = drop (prefix_len (λ b. b == 48) digits) digits

-- 1 to 10 digits are a version, whose number is 1
abbrev pub version : List ℕ → OptionValue
version text =
    if length text == 0 || nat_lt 10 (length text) || not (list_all is_ascii_digit text) then Wrong
    else (if bytes_eq (without_zeros text) (codes "1") then Version else Unsupported)

abbrev pub names_or_wrong : Option (List (List ℕ)) → OptionValue
names_or_wrong None = Wrong
names_or_wrong (Some names) = Publications names

abbrev pub publications_in : Option (List Token) → OptionValue
publications_in None = Wrong
publications_in (Some tokens) = names_or_wrong (names_in tokens)

-- names with commas between them
abbrev pub publications : List ℕ → OptionValue
publications text = publications_in (tokens_of text)

-- options that may only be off, since they are not supported
abbrev pub is_only_off : List ℕ → Bool
is_only_off name =
    bytes_eq name (codes "binary") || bytes_eq name (codes "messages") || bytes_eq name (codes "streaming")
    || bytes_eq name (codes "two_phase")

abbrev pub is_off : List ℕ → Bool
is_off text = bytes_eq text (codes "false") || bytes_eq text (codes "off") || bytes_eq text (codes "0")

abbrev pub off : List ℕ → OptionValue
off text = if is_off text then Off else Unsupported

abbrev pub given : List ℕ → List ℕ → OptionValue
given name text =
    if bytes_eq name (codes "proto_version") then version text
    else (if bytes_eq name (codes "publication_names") then publications text
    else (if is_only_off name then off text else Wrong))

-- the value of the option with this name, which may be missing
abbrev pub option_value : List ℕ → Option (List ℕ) → OptionValue
option_value name None = Wrong
option_value name (Some text) = given name text

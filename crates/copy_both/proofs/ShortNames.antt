-- Each name in a command that was read has at most 63 bytes, and so has the name in each refusal.
use Rattle.std.proofs.Common.{◌≡◌, ℕ, ◌+◌, ◌≤◌, Bool, true, false, not, ◌||◌, ◌==◌, if◌then◌else◌, List, [], ◌∷◌, ◌++◌, length, take, drop, Option, Some, None, sym, subst, arith, length-append}
use Rattle.std.specs.Prelude.{map, nat_lt, position, codes}
use Rattle.std.specs.Char.{is_ascii_digit}
use Rattle.std.specs.List.{list_all, list_any, slice_split}
use Rattle.std.specs.Option.{option_map}
use Rattle.std.specs.Str.{bytes_eq}
use Rattle.std.proofs.lemmas.Bool.Decides.{nat_tests}
use Rattle.copy_both.specs.declared.start_command.OptionValue.{OptionValue}
use Rattle.copy_both.specs.declared.start_command.OptionValue.TheVariants.{Wrong, Unsupported, Version, Publications, Off}
use Rattle.copy_both.specs.declared.start_command.StartCommand.{StartCommand}
use Rattle.copy_both.specs.declared.start_command.StartOption.{StartOption}
use Rattle.copy_both.specs.declared.token.Token.{Token}
use Rattle.copy_both.specs.declared.token.Token.TheVariants.{Word, QuotedName, Value, Position, Open, Close, Comma, Semicolon}
use Rattle.copy_both.specs.CommandText.{named_option, option_in, ends, listed_until, no_options, options_in, command_with, has_keywords, command_in, command_with_tokens, command_of}
use Rattle.copy_both.specs.CommandTokens.{as_name, name_in, token_position, is_comma, is_close, all_of, lone_name, names_in, tokens_of}
use Rattle.copy_both.specs.OptionValues.{version, without_zeros, is_off, publications, publications_in, names_or_wrong, is_only_off, off, given, option_value}
use Rattle.copy_both.specs.Refusals.{RefusalOf, ExpectedQuery, Unreadable, NoSlot, WrongOption, UnsupportedOption, MissingOption, NoPublication, OtherPublications, Ahead, InUse, CanBeSent}
use Rattle.copy_both.specs.ShortNames.{IsShort, AreShort, HasShortValue, IsShortOption, AreShortOptions, IsShortCommand}
use Rattle.copy_both.specs.StartOrder.{OfferOf, or_else, refused, is_wrong, is_named, is_unsupported, has_publications, option_refusal, options_refusal, missing_refusal, names_of, names_in as names_given, unknown_refusal, same_publications, is_in_use, slot_refusal}
use Rattle.filter_tree.proofs.Tests.{by_test}

chosen : {X : Type 0} (b : Bool) (x y : X) (P : X → Type 0) → P x → P y → P (if b then x else y)
chosen true x y P holds fails = holds
chosen false x y P holds fails = fails

-- it holds of what exists
abbrev pub Holds : {X : Type 0} → (X → Type 0) → Option X → Type 0
Holds P None = Unit {0}
Holds P (Some x) = P x

-- ---- what was read

name_is_short : (text : List ℕ) → Holds IsShort (as_name text)
name_is_short text =
    by_test (length text == 0 || nat_lt 63 (length text))
    (λ e. rw e tt)
    (λ e. let few : length text ≤ 63 = grind (arith, nat_tests) in rw e few)

token_is_short : (token : Token) → Holds IsShort (name_in token)
token_is_short (Word text) = name_is_short text
token_is_short (QuotedName text) = name_is_short text
token_is_short (Value text) = tt
token_is_short (Position place) = tt
token_is_short Open = tt
token_is_short Close = tt
token_is_short Comma = tt
token_is_short Semicolon = tt

lone_is_short : (tokens : List Token) → Holds IsShort (lone_name tokens)
lone_is_short [] = tt
lone_is_short (token ∷ []) = token_is_short token
lone_is_short (token ∷ next ∷ tokens) = tt

names_more : (name : List ℕ) (names : Option (List (List ℕ))) → IsShort name → Holds AreShort names
    → Holds AreShort (option_map (λ more. name ∷ more) names)
names_more name None short later = tt
names_more name (Some names) short later = (short, later)

next_name : (name : Option (List ℕ)) (more : List (Option (List ℕ))) → Holds IsShort name
    → Holds AreShort (all_of more) → Holds AreShort (all_of (name ∷ more))
next_name None more short later = tt
next_name (Some name) more short later = names_more name (all_of more) short later

all_names : (parts : List (List Token)) → Holds AreShort (all_of (map lone_name parts))
all_names [] = tt
all_names (part ∷ parts) = next_name (lone_name part) (map lone_name parts) (lone_is_short part) (all_names parts)

names_value : (names : Option (List (List ℕ))) → Holds AreShort names → HasShortValue (names_or_wrong names)
names_value None short = tt
names_value (Some names) short = short

publications_value : (tokens : Option (List Token)) → HasShortValue (publications_in tokens)
publications_value None = tt
publications_value (Some tokens) = names_value (names_in tokens) (all_names (slice_split is_comma tokens))

version_value : (text : List ℕ) → HasShortValue (version text)
version_value text =
    let one : Bool = bytes_eq (without_zeros text) (codes "1") in
    chosen (length text == 0 || nat_lt 10 (length text) || not (list_all is_ascii_digit text)) Wrong
    (if one then Version else Unsupported) HasShortValue tt
    (chosen one Version Unsupported HasShortValue tt tt)

off_value : (text : List ℕ) → HasShortValue (off text)
off_value text = chosen (is_off text) Off Unsupported HasShortValue tt tt

given_value : (name text : List ℕ) → HasShortValue (given name text)
given_value name text =
    chosen (bytes_eq name (codes "proto_version")) (version text) _ HasShortValue (version_value text)
    (chosen (bytes_eq name (codes "publication_names")) (publications text) _ HasShortValue
    (publications_value (tokens_of text))
    (chosen (is_only_off name) (off text) Wrong HasShortValue (off_value text) tt))

value_is_short : (name : List ℕ) (text : Option (List ℕ)) → HasShortValue (option_value name text)
value_is_short name None = tt
value_is_short name (Some text) = given_value name text

named_is_short : (name text : Option (List ℕ)) → Holds IsShort name → Holds IsShortOption (named_option name text)
named_is_short None text short = tt
named_is_short (Some name) text short = record { name = short; value = value_is_short name text }

option_is_short : (tokens : List Token) → Holds IsShortOption (option_in tokens)
option_is_short (name ∷ []) = named_is_short (name_in name) None (token_is_short name)
option_is_short (name ∷ Value text ∷ []) = named_is_short (name_in name) (Some text) (token_is_short name)
option_is_short _ = tt

options_more : (option : StartOption) (options : Option (List StartOption)) → IsShortOption option
    → Holds AreShortOptions options
    → Holds AreShortOptions (option_map (λ more. option ∷ more) options)
options_more option None short later = tt
options_more option (Some options) short later = (short, later)

next_option : (option : Option StartOption) (more : List (Option StartOption)) → Holds IsShortOption option
    → Holds AreShortOptions (all_of more)
    → Holds AreShortOptions (all_of (option ∷ more))
next_option None more short later = tt
next_option (Some option) more short later = options_more option (all_of more) short later

all_options : (parts : List (List Token)) → Holds AreShortOptions (all_of (map option_in parts))
all_options [] = tt
all_options (part ∷ parts) =
    next_option (option_in part) (map option_in parts) (option_is_short part) (all_options parts)

listed_are_short : (place : Option ℕ) (tokens : List Token) → Holds AreShortOptions (listed_until place tokens)
listed_are_short None tokens = tt
listed_are_short (Some n) tokens =
    chosen (ends (drop (n + 1) tokens)) _ None (Holds AreShortOptions)
    (all_options (slice_split is_comma (take n tokens))) tt

none_are_short : (tokens : List Token) → Holds AreShortOptions (no_options tokens)
none_are_short tokens = chosen (ends tokens) (Some []) None (Holds AreShortOptions) tt tt

options_are_short : (tokens : List Token) → Holds AreShortOptions (options_in tokens)
options_are_short (Open ∷ tokens) = listed_are_short (position is_close tokens) tokens
options_are_short tokens = none_are_short tokens

command_with_short : (slot : Option (List ℕ)) (position : Option ℕ) (options : Option (List StartOption))
    → Holds IsShort slot → Holds AreShortOptions options → Holds IsShortCommand (command_with slot position options)
command_with_short (Some slot) (Some position) (Some options) short later = record { slot = short; options = later }
command_with_short (Some slot) (Some position) None short later = tt
command_with_short (Some slot) None options short later = tt
command_with_short None position options short later = tt

command_in_short : (tokens : List Token) → Holds IsShortCommand (command_in tokens)
command_in_short (start ∷ slot ∷ name ∷ logical ∷ place ∷ options) =
    chosen (has_keywords start slot logical) _ None (Holds IsShortCommand)
    (command_with_short (name_in name) (token_position place) (options_in options) (token_is_short name)
    (options_are_short options)) tt
command_in_short _ = tt

with_tokens_short : (tokens : Option (List Token)) → Holds IsShortCommand (command_with_tokens tokens)
with_tokens_short None = tt
with_tokens_short (Some tokens) = command_in_short tokens

pub command_is_short : (text : List ℕ) (command : StartCommand) → Some command ≡ command_of text
    → IsShortCommand command
command_is_short text command e = let short = with_tokens_short (tokens_of text) in let P : Option StartCommand
    → Type 0 = Holds IsShortCommand in subst P (sym e) short

-- ---- refusals

abbrev IsShortRefusal : RefusalOf → Type 0
IsShortRefusal ExpectedQuery = Unit {0}
IsShortRefusal Unreadable = Unit {0}
IsShortRefusal (NoSlot slot) = IsShort slot
IsShortRefusal (WrongOption option) = IsShort option
IsShortRefusal (UnsupportedOption option) = IsShort option
IsShortRefusal (MissingOption option) = IsShort option
IsShortRefusal (NoPublication publication) = IsShort publication
IsShortRefusal (OtherPublications slot) = IsShort slot
IsShortRefusal Ahead = Unit {0}
IsShortRefusal (InUse slot) = IsShort slot

abbrev AllShort : Option RefusalOf → Type 0
AllShort = Holds IsShortRefusal

short_is_sent : (refusal : RefusalOf) → IsShortRefusal refusal → CanBeSent refusal
short_is_sent ExpectedQuery short = omega arith
short_is_sent Unreadable short = omega arith
short_is_sent (NoSlot slot) short = omega (arith, length-append slot (34 ∷ codes " does not exist"), short)
short_is_sent (WrongOption option) short = omega (arith, length-append option (34 ∷ codes " is wrong"), short)
short_is_sent (UnsupportedOption option) short =
    omega (arith, length-append option (34 ∷ codes " is not supported"), short)
short_is_sent (MissingOption option) short = omega (arith, length-append option (34 ∷ codes " is missing"), short)
short_is_sent (NoPublication publication) short =
    omega (arith, length-append publication (34 ∷ codes " does not exist"), short)
short_is_sent (OtherPublications slot) short = omega (arith, length-append slot (34 ∷ []), short)
short_is_sent Ahead short = omega arith
short_is_sent (InUse slot) short = omega (arith, length-append slot (34 ∷ codes " is active"), short)

or_else_short : (first later : Option RefusalOf) → AllShort first → AllShort later → AllShort (or_else first later)
or_else_short None later short more = more
or_else_short (Some refusal) later short more = short

refused_short : (b : Bool) (refusal : RefusalOf) → IsShortRefusal refusal → AllShort (refused b refusal)
refused_short true refusal short = short
refused_short false refusal short = tt

option_short : (earlier : List StartOption) (option : StartOption) → IsShortOption option
    → AllShort (option_refusal earlier option)
option_short earlier option short =
    or_else_short (refused (is_wrong option.value || list_any (is_named option.name) earlier)
    (WrongOption option.name)) _
    (refused_short _ (WrongOption option.name) short.name)
    (refused_short (is_unsupported option.value) (UnsupportedOption option.name) short.name)

options_short : (earlier options : List StartOption) → AreShortOptions options
    → AllShort (options_refusal earlier options)
options_short earlier [] short = tt
options_short earlier (option ∷ later) short =
    or_else_short (option_refusal earlier option) (options_refusal (earlier ++ option ∷ []) later)
    (option_short earlier option short.0) (options_short (earlier ++ option ∷ []) later short.1)

missing_short : (options : List StartOption) → AllShort (missing_refusal options)
missing_short options =
    or_else_short (refused _ (MissingOption (codes "proto_version")))
    (refused _ (MissingOption (codes "publication_names")))
    (refused_short _ (MissingOption (codes "proto_version")) (omega arith))
    (refused_short _ (MissingOption (codes "publication_names")) (omega arith))

names_of_short : (value : OptionValue) → HasShortValue value → AreShort (names_of value)
names_of_short Wrong short = tt
names_of_short Unsupported short = tt
names_of_short Version short = tt
names_of_short (Publications names) short = short
names_of_short Off short = tt

given_short : (options : List StartOption) → AreShortOptions options → AreShort (names_given options)
given_short [] short = tt
given_short (option ∷ options) short =
    chosen (has_publications option.value) (names_of option.value) (names_given options) AreShort
    (names_of_short option.value short.0.value) (given_short options short.1)

unknown_short : (known names : List (List ℕ)) → AreShort names → AllShort (unknown_refusal known names)
unknown_short known [] short = tt
unknown_short known (name ∷ names) short =
    or_else_short (refused (not (list_any (bytes_eq name) known)) (NoPublication name)) (unknown_refusal known names)
    (refused_short _ (NoPublication name) short.0) (unknown_short known names short.1)

slot_short : (offer : OfferOf) (command : StartCommand) (slot : ℕ) (taken : List ℕ) → IsShortCommand command
    → AllShort (slot_refusal offer command slot taken)
slot_short offer command slot taken short =
    or_else_short (options_refusal [] command.options) _ (options_short [] command.options short.options)
    (or_else_short (missing_refusal command.options) _ (missing_short command.options)
    (or_else_short (unknown_refusal offer.publications (names_given command.options)) _
    (unknown_short offer.publications (names_given command.options) (given_short command.options short.options))
    (or_else_short (refused (not (same_publications offer.publications (names_given command.options) taken))
    (OtherPublications command.slot)) _ (refused_short _ (OtherPublications command.slot) short.slot)
    (or_else_short (refused (nat_lt offer.log_end command.position) Ahead) _ (refused_short _ Ahead tt)
    (refused_short (is_in_use offer.in_use slot) (InUse command.slot) short.slot)))))

pub refusal_is_sent : (offer : OfferOf) (command : StartCommand) (slot : ℕ) (taken : List ℕ) (refusal : RefusalOf)
    → IsShortCommand command → Some refusal ≡ slot_refusal offer command slot taken → CanBeSent refusal
refusal_is_sent offer command slot taken refusal short e =
    short_is_sent refusal (subst AllShort (sym e) (slot_short offer command slot taken short))

pub ahead_is_sent : CanBeSent Ahead
ahead_is_sent = short_is_sent Ahead tt

pub in_use_is_sent : (slot : List ℕ) → IsShort slot → CanBeSent (InUse slot)
in_use_is_sent slot short = short_is_sent (InUse slot) short

pub no_slot_is_sent : (slot : List ℕ) → IsShort slot → CanBeSent (NoSlot slot)
no_slot_is_sent slot short = short_is_sent (NoSlot slot) short

-- The command that requests a stream, read as it was meant.
use Rattle.std.proofs.Common.{◌≡◌, ℕ, ◌^◌, ◌<◌, false, ◌==◌, List, [], ◌∷◌, ◌++◌, length, Some, refl, ap, ◌∙◌, arith}
use Rattle.std.specs.Prelude.{codes, map, nat_lt, All}
use Rattle.std.specs.List.{flat_map, slice_split}
use Rattle.std.proofs.lemmas.Bool.Decides.{nat_tests}
use Rattle.std.proofs.lemmas.List.Elements.{All-head, All-tail}
use Rattle.sql_tokens.specs.Doubled.{in_quotes}
use Rattle.copy_both.specs.declared.start_command.OptionValue.TheVariants.{Publications}
use Rattle.copy_both.specs.declared.token.Token.{Token}
use Rattle.copy_both.specs.declared.token.Token.TheVariants.{Word, QuotedName, Value, Position, Open, Close, Comma}
use Rattle.copy_both.specs.CommandText.{command_in, command_with_tokens}
use Rattle.copy_both.specs.CommandTokens.{as_name, is_comma, all_of, lone_name, front, tokens_from}
use Rattle.copy_both.specs.OptionValues.{publications, publications_in, names_or_wrong}
use Rattle.test_subscriber.specs.StartQuery.{names_text, lsn_text, start_text}
use Rattle.stream_laws.specs.CommandSpelling.{BeginsWithout}
use Rattle.stream_laws.specs.Asking.{IsShortName, start_command, CommandsAreRead}
use Rattle.stream_laws.proofs.CommandPieces.{space_passes, written_token, name_token, value_token, word_token, place_token}

-- ---- names with commas between them

abbrev later_tokens : List (List ℕ) → List Token
later_tokens [] = []
later_tokens (name ∷ names) = Comma ∷ QuotedName name ∷ later_tokens names

abbrev later_text : List (List ℕ) → List ℕ
later_text names = flat_map (λ name. codes "," ++ in_quotes 34 name) names

no_quote_next : (names : List (List ℕ)) → BeginsWithout (λ b. b == 34) (later_text names)
no_quote_next [] = tt
no_quote_next (name ∷ names) = refl

later_read : (names : List (List ℕ)) → tokens_from 0 (later_text names) ≡ Some (later_tokens names)
unfolding tokens_from
later_read [] = refl
later_read (name ∷ names) =
    written_token Comma (codes ",") (in_quotes 34 name ++ later_text names) (QuotedName name ∷ later_tokens names)
    refl refl
    (name_token name (later_text names) (later_tokens names) (no_quote_next names) (later_read names))

names_read : (name : List ℕ) (names : List (List ℕ))
    → tokens_from 0 (names_text (name ∷ names)) ≡ Some (QuotedName name ∷ later_tokens names)
names_read name names = name_token name (later_text names) (later_tokens names) (no_quote_next names) (later_read names)

abbrev alone : List (List ℕ) → List (List Token)
alone names = map (λ name. QuotedName name ∷ []) names

names_split : (name : List ℕ) (names : List (List ℕ))
    → slice_split is_comma (QuotedName name ∷ later_tokens names) ≡ alone (name ∷ names)
names_split name [] = refl
names_split name (next ∷ names) = ap (λ parts. (QuotedName name ∷ []) ∷ parts) (names_split next names)

name_kept : (name : List ℕ) → IsShortName name → as_name name ≡ Some name
name_kept name is =
    let none : length name == 0 ≡ false = grind (arith, nat_tests, is.some) in
    let many : nat_lt 63 (length name) ≡ false = grind (arith, nat_tests, is.short) in
    rw (none, many) refl

names_kept : (names : List (List ℕ)) → All IsShortName names → all_of (map lone_name (alone names)) ≡ Some names
names_kept [] all = refl
names_kept (name ∷ names) all =
    rw (name_kept name (All-head IsShortName name names all), names_kept names (All-tail IsShortName name names all))
    refl

publications_read : (names : List (List ℕ)) → 0 < length names → All IsShortName names
    → publications (names_text names) ≡ Publications names
publications_read [] some all = absurd (omega arith)
publications_read (name ∷ names) some all =
    ap publications_in (names_read name names)
    ∙ ap (λ parts. names_or_wrong (all_of (map lone_name parts))) (names_split name names)
    ∙ ap names_or_wrong (names_kept (name ∷ names) all)

-- ---- the whole command

close_read : tokens_from 0 (codes ")") ≡ Some (Close ∷ [])
unfolding front tokens_from
close_read = refl

-- the tokens of the options, from the parenthesis on
abbrev options_tokens : List ℕ → List Token
options_tokens text =
    Open ∷ Word (codes "proto_version") ∷ Value (codes "1") ∷ Comma ∷ Word (codes "publication_names") ∷ Value text
    ∷ Close ∷ []

options_read : (text : List ℕ)
    → tokens_from 0 (codes " (proto_version '1', publication_names " ++ (in_quotes 39 text ++ codes ")"))
    ≡ Some (options_tokens text)
options_read text =
    let value = space_passes _ _
    (value_token text (codes ")") (Close ∷ []) refl close_read) in
    let names = space_passes _ _
    (word_token (codes "publication_names") (in_quotes 39 text ++ codes ")") _ refl refl value) in
    let comma = written_token Comma (codes ",") (codes " publication_names " ++ (in_quotes 39 text ++ codes ")")) _
    refl refl names in
    let one = space_passes _ _
    (value_token (codes "1") (codes ", publication_names " ++ (in_quotes 39 text ++ codes ")")) _ refl comma) in
    let version = word_token (codes "proto_version")
    (codes "'1', publication_names " ++ (in_quotes 39 text ++ codes ")")) _ refl refl one in
    let opened = written_token Open (codes "(")
    (codes "proto_version '1', publication_names " ++ (in_quotes 39 text ++ codes ")")) _ refl refl version in
    space_passes (codes "(proto_version '1', publication_names " ++ (in_quotes 39 text ++ codes ")")) _ opened

start_tokens : (slot : List ℕ) (names : List (List ℕ)) (position : ℕ) → position < 2 ^ 64
    → tokens_from 0 (start_text slot names position)
    ≡ Some (Word (codes "start_replication") ∷ Word (codes "slot") ∷ QuotedName slot ∷ Word (codes "logical")
    ∷ Position position ∷ options_tokens (names_text names))
start_tokens slot names position small =
    let options : List ℕ =
    codes "(proto_version '1', publication_names " ++ (in_quotes 39 (names_text names) ++ codes ")") in
    let place = space_passes (lsn_text position ++ (32 ∷ options)) _
    (place_token position options _ small (options_read (names_text names))) in
    let logical = space_passes (codes "LOGICAL" ++ (32 ∷ (lsn_text position ++ (32 ∷ options)))) _
    (word_token (codes "LOGICAL") (lsn_text position ++ (32 ∷ options)) _ refl refl place) in
    let after : List ℕ = codes " LOGICAL " ++ (lsn_text position ++ (32 ∷ options)) in
    let name = space_passes (in_quotes 34 slot ++ after) _
    (name_token slot after _ refl logical) in
    let word = space_passes (codes "SLOT" ++ (32 ∷ (in_quotes 34 slot ++ after))) _
    (word_token (codes "SLOT") (in_quotes 34 slot ++ after) _ refl refl name) in
    word_token (codes "START_REPLICATION") (codes "SLOT " ++ (in_quotes 34 slot ++ after)) _ refl refl word

tokens_command : (slot : List ℕ) (names : List (List ℕ)) (position : ℕ) → IsShortName slot → 0 < length names
    → All IsShortName names
    → command_in (Word (codes "start_replication") ∷ Word (codes "slot") ∷ QuotedName slot ∷ Word (codes "logical")
    ∷ Position position ∷ options_tokens (names_text names))
    ≡ Some (start_command slot names position)
tokens_command slot names position named some all = rw (name_kept slot named, publications_read names some all) refl

pub commands_are_read : CommandsAreRead
commands_are_read slot names position named some all small =
    ap command_with_tokens (start_tokens slot names position small) ∙ tokens_command slot names position named some all

-- A command by its first five tokens.
use Rattle.std.proofs.Common.{◌≡◌, ℕ, ◌-◌, ◌≤◌, true, List, [], ◌∷◌, length, get_or, take, drop, sym, ap, ◌∙◌, arith, length-drop}
use Rattle.std.proofs.lemmas.List.{take_all}
use Rattle.std.specs.Prelude.{if◌then◌else◌, Option, None}
use Rattle.copy_both.specs.declared.start_command.StartCommand.{StartCommand}
use Rattle.copy_both.specs.declared.start_command.StartOption.{StartOption}
use Rattle.copy_both.specs.declared.token.Token.{Token}
use Rattle.copy_both.specs.CommandTokens.{name_in, token_position}
use Rattle.copy_both.specs.CommandText.{has_keywords, options_in, command_with, command_in}

five : (tokens : List Token) (a b c d e : Token) → 5 ≤ length tokens
    → a ≡ get_or tokens 0 a → b ≡ get_or tokens 1 b → c ≡ get_or tokens 2 c → d ≡ get_or tokens 3 d
    → e ≡ get_or tokens 4 e
    → tokens ≡ a ∷ b ∷ c ∷ d ∷ e ∷ drop 5 tokens
five [] a b c d e long e0 e1 e2 e3 e4 = absurd (omega arith)
five (x0 ∷ []) a b c d e long e0 e1 e2 e3 e4 = absurd (omega arith)
five (x0 ∷ x1 ∷ []) a b c d e long e0 e1 e2 e3 e4 = absurd (omega arith)
five (x0 ∷ x1 ∷ x2 ∷ []) a b c d e long e0 e1 e2 e3 e4 = absurd (omega arith)
five (x0 ∷ x1 ∷ x2 ∷ x3 ∷ []) a b c d e long e0 e1 e2 e3 e4 = absurd (omega arith)
five (x0 ∷ x1 ∷ x2 ∷ x3 ∷ x4 ∷ rest) a b c d e long e0 e1 e2 e3 e4 = cc (e0, e1, e2, e3, e4)

pub command_is : (tokens : List Token) (start slot name logical place : Token) → 5 ≤ length tokens
    → start ≡ get_or tokens 0 start → slot ≡ get_or tokens 1 slot → name ≡ get_or tokens 2 name
    → logical ≡ get_or tokens 3 logical → place ≡ get_or tokens 4 place
    → has_keywords start slot logical ≡ true
    → command_in tokens ≡ command_with (name_in name) (token_position place)
    (options_in (take (length tokens - 5) (drop 5 tokens)))
command_is tokens start slot name logical place long e0 e1 e2 e3 e4 keywords =
    ap command_in (five tokens start slot name logical place long e0 e1 e2 e3 e4)
    ∙ ap (λ b. if b then command_with (name_in name) (token_position place) (options_in (drop 5 tokens)) else None)
    keywords
    ∙ ap (λ rest. command_with (name_in name) (token_position place) (options_in rest))
    (sym (take_all (length tokens - 5) (drop 5 tokens) (omega (arith, length-drop 5 tokens))))

pub command_read : (found command : Option StartCommand) (slot name : Option (List ℕ)) (position place : Option ℕ)
    (options listed : Option (List StartOption))
    → found ≡ command_with slot position options → slot ≡ name → position ≡ place → options ≡ listed
    → command ≡ command_with name place listed → found ≡ command
command_read found command slot name position place options listed is slot_is position_is options_is command_is = cc

-- The tokens of a text: PostgreSQL 15, "SQL Syntax", 4.1 Lexical Structure.
use Rattle.std.specs.Prelude.{ℕ, zero, suc, ◌+◌, ◌-◌, List, [], ◌∷◌, take, drop}
use Rattle.sql_tokens.specs.declared.kinds.TokenKind.{TokenKind}
use Rattle.sql_tokens.specs.declared.kinds.FaultKind.{FaultKind}
use Rattle.sql_tokens.specs.declared.kinds.Piece.{Piece}
use Rattle.sql_tokens.specs.declared.kinds.Piece.TheVariants.{Blank, Whole, Faulty}
use Rattle.sql_tokens.specs.Front.{front}

-- a token: what it is, the place of its first byte in the text, and its bytes as they are written
pub record Lexeme : Type 0 where
  pub kind : TokenKind
  pub place : ℕ
  pub text : List ℕ

-- The tokens up to the end of the text, whose place is the text's length, or up to the first fault.
pub data Lexed : Type 0 where
  End : ℕ → Lexed
  Bad : ℕ → FaultKind → Lexed
  Then : Lexeme → Lexed → Lexed

-- what the piece at the front of some bytes makes; `go_on` continues after skipping a number of bytes after the first
-- one
abbrev pub begins : Piece → ℕ → List ℕ → (ℕ → Lexed) → Lexed
begins (Blank n) place bytes go_on = go_on (n - 1)
begins (Whole kind n) place bytes go_on =
    Then (record { kind = kind; place = place; text = take n bytes }) (go_on (n - 1))
begins (Faulty fault) place bytes go_on = Bad place fault

-- the tokens of bytes that are at a place of the text, after skipping `skip` of them
unfoldable pub tokens_from : ℕ → ℕ → List ℕ → Lexed
tokens_from place skip [] = End place
tokens_from place (suc skip) (b ∷ bytes) = tokens_from (place + 1) skip bytes
tokens_from place zero (b ∷ bytes) = begins (front (b ∷ bytes)) place (b ∷ bytes) (λ n. tokens_from (place + 1) n bytes)

-- the tokens of a text from a place on
abbrev pub at : List ℕ → ℕ → Lexed
at text place = tokens_from place 0 (drop place text)

abbrev pub tokens_of : List ℕ → Lexed
tokens_of text = at text 0

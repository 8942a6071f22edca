-- The tokens of a text as the grammar distinguishes them: PostgreSQL 15, "SQL Syntax", 4.1 Lexical Structure.
use Rattle.std.specs.Prelude.{ℕ, suc, Bool, true, false, not, List, Option, Some, None}
use denote.Enum.Bare.{sameb}
use Rattle.sql_tokens.specs.contracts.kinds.Operator.{the_type}
use Rattle.sql_tokens.specs.declared.kinds.FaultKind.{FaultKind}
use Rattle.sql_tokens.specs.declared.kinds.TokenKind.{TokenKind}
use Rattle.sql_tokens.specs.declared.kinds.TokenKind.TheVariants as t
use Rattle.sql_tokens.specs.declared.kinds.Operator.{Operator}
use Rattle.sql_tokens.specs.Lexed.{Lexeme, Lexed, End, Bad, Then as After, tokens_of}
use Rattle.sql_tokens.specs.Meant.{between_quotes}
use Rattle.sql_reader.specs.declared.word.Keyword.{Keyword}
use Rattle.sql_reader.specs.declared.item.Item.{Item}
use Rattle.sql_reader.specs.declared.item.Item.TheVariants as i
use Rattle.sql_reader.specs.Keywords.{keyword_of, same_keyword, is_reserved}
use Rattle.sql_tokens.specs.Left.{left}
use Rattle.sql_reader.specs.declared.reader.Ahead.{Ahead}
use Rattle.sql_reader.specs.declared.reader.Ahead.TheVariants as a
use Rattle.sql_reader.specs.declared.reader.Reader.{Reader}

abbrev pub word_or_keyword : Option Keyword → Item
word_or_keyword (Some keyword) = i.Keyword keyword
word_or_keyword None = i.Word

-- what a token is to the grammar, by its kind and its bytes
abbrev pub item_of : TokenKind → List ℕ → Item
item_of t.Word written = word_or_keyword (keyword_of written)
item_of t.QuotedName written = i.QuotedName
item_of (t.Number number) written = i.Number number
item_of t.Text written = i.Text
item_of (t.Operator operator) written = i.Operator operator
item_of t.Open written = i.Open
item_of t.Close written = i.Close
item_of t.Comma written = i.Comma
item_of t.Semicolon written = i.Semicolon
item_of t.Dot written = i.Dot
item_of t.DoubleColon written = i.DoubleColon

-- equal operators
abbrev pub same_operator : Operator → Operator → Bool
same_operator = sameb the_type

-- the same keyword, operator or mark, two numbers, two names of a kind or two strings
abbrev pub is_like : Item → Item → Bool
is_like i.Word i.Word = true
is_like i.QuotedName i.QuotedName = true
is_like (i.Number number) (i.Number other) = true
is_like i.Text i.Text = true
is_like i.Open i.Open = true
is_like i.Close i.Close = true
is_like i.Comma i.Comma = true
is_like i.Semicolon i.Semicolon = true
is_like i.Dot i.Dot = true
is_like i.DoubleColon i.DoubleColon = true
is_like (i.Operator operator) (i.Operator other) = same_operator operator other
is_like (i.Keyword keyword) (i.Keyword other) = same_keyword keyword other
is_like _ _ = false

-- whether a name may be written like this
abbrev pub is_name : Item → Bool
is_name i.Word = true
is_name i.QuotedName = true
is_name (i.Keyword keyword) = not (is_reserved keyword)
is_name _ = false

-- a token as the grammar sees it: `written` is what is between the quotes of a quoted name or a string, and the whole
-- token of any other kind
pub record SeenItem : Type 0 where
  pub item : Item
  pub place : ℕ
  pub written : List ℕ

-- The tokens up to the end of the text, whose place is the text's length, or up to the first faulty token.
pub data Items : Type 0 where
  Stop : ℕ → Items
  Broken : ℕ → FaultKind → Items
  Then : SeenItem → Items → Items

abbrev pub within_quotes : TokenKind → List ℕ → List ℕ
within_quotes t.QuotedName text = between_quotes text
within_quotes t.Text text = between_quotes text
within_quotes _ text = text

abbrev pub seen_item : Lexeme → SeenItem
seen_item lexeme = record {
  item = item_of lexeme.kind lexeme.text;
  place = lexeme.place;
  written =
      within_quotes lexeme.kind lexeme.text;
}

unfoldable pub items : Lexed → Items
items (End place) = Stop place
items (Bad place fault) = Broken place fault
items (After lexeme rest) = Then (seen_item lexeme) (items rest)

unfoldable pub items_of : List ℕ → Items
items_of text = items (tokens_of text)

-- how many tokens there are
abbrev pub size : Items → ℕ
size (Stop place) = 0
size (Broken place fault) = 0
size (Then token rest) = suc (size rest)

-- ---- what a reader still has to read

abbrev pub ahead_of : Ahead → ℕ → List ℕ → Items → Items
ahead_of a.End place written rest = Stop place
ahead_of (a.Fault kind) place written rest = Broken place kind
ahead_of (a.Item item) place written rest = Then (record { item = item; place = place; written = written }) rest

-- the tokens from the one ahead on
unfoldable pub to_read : Reader → Items
to_read r = ahead_of r.ahead r.place r.written.now (items (left r.tokens))

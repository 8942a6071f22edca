use Rattle.std.proofs.Common.{◌≡◌, ◌++◌, string_bytes}
use Rattle.std.specs.Str.Iter.{chars_rest}
use Rattle.sql_tokens.specs.Quotes.{undoubled}
use Rattle.sql_reader.proofs.Undoubling.{undoubled_from}
use Rattle.sql_reader.proofs.quoted.undoubled_by_character.Given as goal

abbrev pub invariant-loop-character : goal.invariant-loop-character
invariant-loop-character l =
    string_bytes l.text ++ undoubled_from l.quote l.is_quote (chars_rest l.character-iterator)
    ≡ undoubled l.quote l.written

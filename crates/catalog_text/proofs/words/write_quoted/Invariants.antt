use Rattle.std.proofs.Common.{◌≡◌, ◌++◌}
use Rattle.std.specs.String.{string_bytes}
use Rattle.std.specs.Str.Iter.{chars_rest}
use Rattle.sql_tokens.specs.Doubled.{doubled}
use Rattle.catalog_text.proofs.words.write_quoted.Given as goal

abbrev pub invariant-loop-character : goal.invariant-loop-character
invariant-loop-character l =
    string_bytes l.text ++ doubled l.quote (chars_rest l.character-iterator) ≡ string_bytes l.initial.text
    ++ doubled l.quote l.inner

-- Rows as they are written: PostgreSQL 15, "Value Expressions", 4.2.13 Row Constructors, made of the constants of
-- 4.1.2.
use Rattle.std.specs.Prelude.{ℕ, true, false, if◌then◌else◌, List, [], ◌∷◌, ◌++◌, Option, Some, Ok, Err}
use Rattle.filter_tree.specs.Datum.{Datum, Missing, Known, Number, Truth, Bytes}
use Rattle.sql_tokens.specs.declared.kinds.Operator.TheVariants.{Minus}
use Rattle.sql_reader.specs.declared.word.Keyword.TheVariants as k
use Rattle.sql_reader.specs.declared.item.Item.{Item}
use Rattle.sql_reader.specs.declared.item.Item.TheVariants as i
use Rattle.sql_reader.specs.Items.{Stop, items_of}
use Rattle.sql_reader.specs.Names.{string_meant}
use Rattle.sql_reader.specs.Numbers.{signed_number}
use Rattle.sql_reader.specs.Reading.{Rule, Verdict, Outcome, ◌>>=◌, ◌>>◌, pure, refuse, unexpected, advance, expect, next_is, item_ahead, written_ahead}
use Rattle.sql_reader.specs.Repetitions.{link, repeat}

-- `:: text`, which changes nothing
unfoldable pub text_cast : Rule (Unit {0})
text_cast = advance >> expect (i.Keyword k.Text) >> pure tt

unfoldable pub cast_or_none : Rule (Unit {0})
cast_or_none = do
  has_cast ← next_is i.DoubleColon
  if has_cast then text_cast else pure tt

unfoldable pub string_value : Rule Datum
string_value = λ ts. (advance >> cast_or_none >> pure (Known (Bytes (string_meant (written_ahead ts))))) ts

unfoldable pub number_value : Rule Datum
number_value = signed_number >>= (λ number. pure (Known (Number number)))

abbrev pub value_by : Option Item → Rule Datum
value_by (Some (i.Keyword k.Null)) = advance >> pure Missing
value_by (Some (i.Keyword k.True)) = advance >> pure (Known (Truth true))
value_by (Some (i.Keyword k.False)) = advance >> pure (Known (Truth false))
value_by (Some (i.Operator Minus)) = number_value
value_by (Some (i.Number number)) = number_value
value_by (Some i.Text) = string_value
value_by _ = refuse

-- NULL, TRUE, FALSE, a number or a string
unfoldable pub value : Rule Datum
value ts = value_by (item_ahead ts) ts

unfoldable pub one_value : List Datum → Rule (List Datum)
one_value row = value >>= (λ cell. pure (row ++ cell ∷ []))

unfoldable pub values : Rule (List Datum)
values = one_value [] >>= repeat (link i.Comma one_value)

-- the end of the text
abbrev pub text_end : Rule (Unit {0})
text_end (Stop place) = Ok (tt, Stop place)
text_end ts = Err (unexpected ts)

unfoldable pub end : Rule (Unit {0})
end ts = text_end ts

-- values between parentheses
unfoldable pub row_in_parentheses : Rule (List Datum)
row_in_parentheses = do
  expect i.Open
  cells ← values
  expect i.Close
  pure cells

-- values between parentheses, and nothing after them
unfoldable pub row : Rule (List Datum)
row = do
  cells ← row_in_parentheses
  end
  pure cells

abbrev pub without_rest : {A : Type 0} → Outcome A → Verdict A
without_rest (Ok read) = Ok read.0
without_rest (Err fault) = Err fault

-- the row that a text spells, or the first fault of the text
unfoldable pub row_of : List ℕ → Verdict (List Datum)
row_of text = without_rest (row (items_of text))

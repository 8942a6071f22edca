-- Numbers with a sign: PostgreSQL 15, "SQL Syntax", 4.1.2.6 Numeric Constants.
use Rattle.std.specs.Prelude.{ℤ, pos, neg_ℤ, Bool, true, false, if◌then◌else◌, Option, Some, None, Ok}
use Rattle.sql_tokens.specs.declared.kinds.Operator.TheVariants.{Minus}
use Rattle.sql_reader.specs.declared.item.Item.{Item}
use Rattle.sql_reader.specs.declared.item.Item.TheVariants as i
use Rattle.sql_reader.specs.declared.number.PlacedNumber.{PlacedNumber}
use Rattle.sql_reader.specs.Reading.{Rule, ◌>>=◌, pure, refuse, is_ahead, item_ahead, place_ahead, rest_of}

-- the number that comes next, with or without a minus before it
abbrev pub number_ahead : Bool → Option Item → Option ℤ
number_ahead negative (Some (i.Number n)) = Some (if negative then neg_ℤ (pos n) else pos n)
number_ahead negative _ = None

abbrev pub number_taken : Option ℤ → Rule PlacedNumber
number_taken (Some number) = λ ts. Ok (record { place = place_ahead ts; number = number }, rest_of ts)
number_taken None = refuse

unfoldable pub number : Bool → Rule PlacedNumber
number negative ts = number_taken (number_ahead negative (item_ahead ts)) ts

abbrev pub minus : Item
minus = i.Operator Minus

-- a number with the place of its digits
unfoldable pub placed_number : Rule PlacedNumber
placed_number ts = if is_ahead minus ts then number true (rest_of ts) else number false ts

unfoldable pub signed_number : Rule ℤ
signed_number = placed_number >>= (λ digits. pure digits.number)

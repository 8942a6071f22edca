-- The number in a token, of at most 63 bits.
use Rattle.std.specs.Prelude.{ℕ}
use Rattle.sql_reader.specs.declared.item.Item.{Item}
use Rattle.sql_reader.specs.declared.item.Item.TheVariants.{Number}
use Rattle.sql_reader.specs.declared.reader.Ahead.{Ahead}
use Rattle.sql_reader.specs.declared.reader.Ahead.TheVariants as a

abbrev pub number_in : Item → ℕ
number_in (Number n) = n
number_in _ = 0

abbrev pub magnitude : Ahead → ℕ
magnitude (a.Item item) = number_in item
magnitude _ = 0

-- The ranges of the integer types: "8.1 Numeric Types". A type that is not an integer type has the range of bigint.
use Rattle.std.specs.Prelude.{ℤ, pos, negsuc}
use Rattle.filter_tree.specs.declared.table.ColType.{ColType}
use Rattle.filter_tree.specs.declared.table.ColType.TheVariants.{SmallInt, Integer}

-- -2 ^ 15, -2 ^ 31 and -2 ^ 63
abbrev pub least_of : ColType → ℤ
least_of SmallInt = negsuc 32767
least_of Integer = negsuc 2147483647
least_of _ = negsuc 9223372036854775807

-- 2 ^ 15 - 1, 2 ^ 31 - 1 and 2 ^ 63 - 1
abbrev pub greatest_of : ColType → ℤ
greatest_of SmallInt = pos 32767
greatest_of Integer = pos 2147483647
greatest_of _ = pos 9223372036854775807

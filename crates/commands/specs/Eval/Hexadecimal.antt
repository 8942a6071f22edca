-- Bytes as hexadecimal digits in lower case, two for each byte, the high one first (PostgreSQL 15, "bytea Hex
-- Format", 8.4.1, without its `\x`).
use Rattle.std.specs.Prelude.{ℕ, ◌+◌, ◌/◌, ◌%◌, if◌then◌else◌, nat_lt, List, [], ◌∷◌}
use Rattle.std.specs.List.{flat_map}

-- `0` to `9`, or `a` to `f`
abbrev pub digit : ℕ → ℕ
digit number = if nat_lt number 10 then 48 + number else 87 + number

-- the high digit and the low digit
abbrev pub digits_of : ℕ → List ℕ
digits_of byte = digit (byte / 16) ∷ digit (byte % 16) ∷ []

abbrev pub hexadecimal : List ℕ → List ℕ
hexadecimal bytes = flat_map digits_of bytes

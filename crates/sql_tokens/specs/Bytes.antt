-- The classes of bytes that tokens are made of: PostgreSQL 15, "SQL Syntax", 4.1.1 Identifiers and Key Words and
-- 4.1.3 Operators.
use Rattle.std.specs.Prelude.{ℕ, Bool, not, ◌||◌, ◌==◌}
use Rattle.std.specs.Char.{is_ascii_alphabetic, is_ascii_alphanumeric, is_ascii_digit}
use Rattle.sql_tokens.specs.declared.bytes.Class.{Class}
use Rattle.sql_tokens.specs.declared.bytes.Class.TheVariants as class

-- ~ ! @ # % ^ & |, the backquote and the question mark
abbrev pub is_free_sign : ℕ → Bool
is_free_sign b = b == 126 || b == 33 || b == 64 || b == 35 || b == 37 || b == 94 || b == 38 || b == 124 || b == 96
    || b == 63

-- + - * / < > = and the above
abbrev pub is_sign : ℕ → Bool
is_sign b = b == 43 || b == 45 || b == 42 || b == 47 || b == 60 || b == 62 || b == 61 || is_free_sign b

abbrev pub is_in_class : Class → ℕ → Bool
is_in_class class.Space b = b == 32 || b == 9 || b == 10 || b == 13 || b == 12
is_in_class class.Letter b = is_ascii_alphabetic b || b == 95
is_in_class class.WordByte b = is_ascii_alphanumeric b || b == 95 || b == 36
is_in_class class.Digit b = is_ascii_digit b
is_in_class class.LineByte b = not (b == 0 || b == 10 || b == 13)
is_in_class class.Sign b = is_sign b
is_in_class class.FreeSign b = is_free_sign b
is_in_class class.PlusMinus b = b == 43 || b == 45

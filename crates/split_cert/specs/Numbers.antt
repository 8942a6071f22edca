-- Numbers in the text of a certificate: in decimal, of 32 bits, without leading zeros. The format is specific to this
-- project.
use Rattle.std.specs.Prelude.{ℕ, ◌+◌, ◌-◌, ◌*◌, ◌^◌, ◌&&◌, nat_lt, if◌then◌else◌, List, [], ◌∷◌, Option, Some, None}
use Rattle.std.specs.Fmt.{decimal}
use Rattle.std.specs.Str.{bytes_eq}

-- more digits read after a number
unfoldable pub number_from : ℕ → List ℕ → ℕ
number_from n [] = n
number_from n (digit ∷ digits) = number_from (10 * n + (digit - 48)) digits

-- the number of which a word is the decimal text, if it has 32 bits
unfoldable pub word_number : List ℕ → Option ℕ
word_number bytes =
    let number = number_from 0 bytes in
    if bytes_eq bytes (decimal number) && nat_lt number (2 ^ 32) then Some number else None

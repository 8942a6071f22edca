-- The pieces of a command that requests a stream, each read as it was written.
use Rattle.std.proofs.Common.{◌≡◌, ◌≢◌, ℕ, zero, suc, ◌+◌, ◌-◌, ◌*◌, ◌/◌, ◌%◌, ◌^◌, ◌<◌, ◌≤◌, true, false, ◌==◌, List, [], ◌∷◌, ◌++◌, length, Some, refl, arith, length-append}
use Rattle.std.specs.Prelude.{slice_index}
use Rattle.std.specs.Char.{is_ascii_hexdigit}
use Rattle.std.specs.Fmt.{digits, digits_onto, digit_glyph}
use Rattle.std.specs.List.{list_all}
use Rattle.std.specs.Str.{str_to_ascii_lowercase}
use Rattle.std.specs.Str.Parse.{digits_value}
use Rattle.std.proofs.Math.Nat.{pow-suc}
use Rattle.std.proofs.lemmas.Bool.Decides.{nat_tests}
use Rattle.std.proofs.lemmas.Fmt.{digits_is_IsNumeral}
use Rattle.std.proofs.lemmas.List.{drop_at}
use Rattle.sql_tokens.specs.Doubled.{in_quotes}
use Rattle.copy_both.specs.declared.token.Token.{Token}
use Rattle.copy_both.specs.declared.token.Token.TheVariants.{Word, QuotedName, Value, Position}
use Rattle.copy_both.specs.declared.token.Piece.TheVariants.{Whole}
use Rattle.copy_both.specs.CommandTokens.{is_letter, is_word_byte, front, tokens_from}
use Rattle.test_subscriber.specs.StartQuery.{lsn_text}
use Rattle.copy_both.proofs.TokenLoops.{skipped}
use Rattle.filter_tree.proofs.Tests.{by_test}
use Rattle.stream_laws.specs.CommandSpelling.{IsHexadecimal, IsPlace, IsWritten, continues, BeginsWithout}
use Rattle.stream_laws.proofs.WrittenPieces.{all_hex, written_some, written_front}

-- ---- tokens

-- a token is at the front, and then what follows it is read
token_here : (token : Token) (text rest : List ℕ) (tokens : List Token) → 0 < length text
    → front (text ++ rest) ≡ Whole token (length text)
    → tokens_from 0 rest ≡ Some tokens → tokens_from 0 (text ++ rest) ≡ Some (token ∷ tokens)
unfolding tokens_from
token_here token [] rest tokens some is more = absurd (omega arith)
token_here token (b ∷ text) rest tokens some is more =
    let back : length (b ∷ text) - 1 ≡ length text = omega arith in
    let long : length text ≤ length (text ++ rest) = omega (arith, length-append text rest) in
    rw (is, back, skipped (length text) (text ++ rest) long, drop_at text rest (length text) refl, more) refl

pub space_passes : (rest : List ℕ) (tokens : List Token) → tokens_from 0 rest ≡ Some tokens
    → tokens_from 0 (32 ∷ rest) ≡ Some tokens
unfolding tokens_from front
space_passes rest tokens more = more

-- a token that is written is read, and then what follows it
pub written_token : (token : Token) (written after : List ℕ) (tokens : List Token) → IsWritten token written
    → BeginsWithout (continues token) after → tokens_from 0 after ≡ Some tokens
    → tokens_from 0 (written ++ after) ≡ Some (token ∷ tokens)
written_token token written after tokens is ends more =
    token_here token written after tokens (written_some token written is) (written_front token written after is ends)
    more

pub name_token : (name after : List ℕ) (tokens : List Token) → BeginsWithout (λ b. b == 34) after
    → tokens_from 0 after ≡ Some tokens
    → tokens_from 0 (in_quotes 34 name ++ after) ≡ Some (QuotedName name ∷ tokens)
name_token name after tokens ends more =
    written_token (QuotedName name) (in_quotes 34 name) after tokens refl ends more

pub value_token : (text after : List ℕ) (tokens : List Token) → BeginsWithout (λ b. b == 39) after
    → tokens_from 0 after ≡ Some tokens
    → tokens_from 0 (in_quotes 39 text ++ after) ≡ Some (Value text ∷ tokens)
value_token text after tokens ends more =
    written_token (Value text) (in_quotes 39 text) after tokens refl ends more

-- a word before a space
pub word_token : (written rest : List ℕ) (tokens : List Token) → is_letter (slice_index written 0) ≡ true
    → list_all is_word_byte written ≡ true → tokens_from 0 (32 ∷ rest) ≡ Some tokens
    → tokens_from 0 (written ++ (32 ∷ rest)) ≡ Some (Word (str_to_ascii_lowercase written) ∷ tokens)
word_token written rest tokens letter each more =
    written_token (Word (str_to_ascii_lowercase written)) written (32 ∷ rest) tokens
    (record { first = letter; each = each; folded = refl }) refl more

-- ---- places

-- a number with more than one digit has one digit more than the rest of it
fewer : (k n : ℕ) → n < 16 ^ suc k → n / 16 == 0 ≡ false → (before : ℕ)
    × ((k ≡ suc before) × (n / 16 < 16 ^ suc before))
fewer zero n small e =
    absurd (let few : n < 16 = small in let some : n / 16 ≢ 0 = grind (arith, nat_tests) in omega (arith, few, some))
fewer (suc k) n small e = let power : 16 ^ suc (suc k) ≡ 16 ^ suc k * 16 = pow-suc 16 (suc k) in
    (k, (refl, omega (arith, power, small)))

onto_short : (fuel k n : ℕ) (acc : List ℕ) → n < 16 ^ suc k
    → length (digits_onto fuel 16 true n acc) ≤ suc k + length acc
onto_short zero k n acc small = omega arith
onto_short (suc fuel) k n acc small =
    by_test (n / 16 == 0)
    (λ e. rw e (omega arith))
    (λ e. let left = fewer k n small e in
    let more = onto_short fuel left.0 (n / 16) (digit_glyph true (n % 16) ∷ acc) left.1.1 in
    rw e (omega (arith, more, left.1.0)))

pub digits_short : (n : ℕ) → n < 2 ^ 32 → length (digits 16 true n) ≤ 8
unfolding digits
digits_short n small = onto_short 64 7 n [] (omega arith)

-- the digits that are written for a number
record IsWrittenNumber (n : ℕ) (written : List ℕ) : Type 0 where
  is : IsHexadecimal written
  value : digits_value 16 written ≡ n

number_written : (n : ℕ) → n < 2 ^ 32 → IsWrittenNumber n (digits 16 true n)
number_written n small =
    let is = digits_is_IsNumeral 16 true (omega arith) (omega arith) n (omega arith) in
    record { is = record { numeral = is.0; few = digits_short n small }; value = is.1 }

pub hex_digits : (n : ℕ) → n < 2 ^ 32 → list_all is_ascii_hexdigit (digits 16 true n) ≡ true
hex_digits n small = all_hex (digits 16 true n) (number_written n small).is.numeral.1

place_written : (position : ℕ) → position < 2 ^ 64 → IsPlace position (lsn_text position)
place_written position small =
    let high = number_written (position / 2 ^ 32) (omega arith) in
    let low = number_written (position % 2 ^ 32) (omega arith) in
    record {
      high = digits 16 true (position / 2 ^ 32);
      low = digits 16 true (position % 2 ^ 32);
      whole = refl;
      before = high.is;
      after = low.is;
      value = rw (high.value, low.value) (omega arith);
    }

pub place_token : (position : ℕ) (rest : List ℕ) (tokens : List Token) → position < 2 ^ 64
    → tokens_from 0 (32 ∷ rest) ≡ Some tokens
    → tokens_from 0 (lsn_text position ++ (32 ∷ rest)) ≡ Some (Position position ∷ tokens)
place_token position rest tokens small more =
    written_token (Position position) (lsn_text position) (32 ∷ rest) tokens (place_written position small) refl more

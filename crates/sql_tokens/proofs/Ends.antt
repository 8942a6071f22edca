-- A token ends with an ASCII character.
use Rattle.std.proofs.Common.{◌≡◌, ℕ, zero, suc, ◌+◌, ◌-◌, ◌^◌, ◌<◌, ◌≤◌, true, false, not, ◌&&◌, ◌||◌, List, [], ◌∷◌, length, get_or, drop, inl, inr, arith, length-drop}
use Rattle.std.proofs.lemmas.Bool.{cases_Bool, and_parts}
use Rattle.std.proofs.lemmas.Bool.Decides.{nat_tests}
use Rattle.std.proofs.lemmas.List.Sums.{prefix_len_passes, prefix_len-le-length}
use Rattle.std.specs.List.{prefix_len}
use Rattle.sql_tokens.specs.declared.bytes.Class.TheVariants as class
use Rattle.sql_tokens.specs.declared.kinds.Operator.{Operator}
use Rattle.sql_tokens.specs.declared.kinds.TokenKind.TheVariants as kind
use Rattle.sql_tokens.specs.Bytes.{is_in_class}
use Rattle.sql_tokens.specs.Comments.{begins_line_comment, begins_block_comment}
use Rattle.sql_tokens.specs.Operators.{signs_len}
use Rattle.sql_tokens.specs.Pieces.{IsToken}

digit_ascii : (b : ℕ) → is_in_class class.Digit b ≡ true → b < 128
digit_ascii b e = grind (arith, nat_tests)

letter_ascii : (b : ℕ) → is_in_class class.Letter b ≡ true → b < 128
letter_ascii b e = grind (arith, nat_tests)

word_byte_ascii : (b : ℕ) → is_in_class class.WordByte b ≡ true → b < 128
word_byte_ascii b e = grind (arith, nat_tests)

sign_ascii : (b : ℕ) → is_in_class class.Sign b ≡ true → b < 128
sign_ascii b e = grind (arith, nat_tests)

pub digits_some : (bytes : List ℕ) → is_in_class class.Digit (get_or bytes 0 0) ≡ true
    → 0 < prefix_len (is_in_class class.Digit) bytes
digits_some [] e = cc
digits_some (b ∷ bytes) e = rw e (omega arith)

pub digits_last : (bytes : List ℕ) → is_in_class class.Digit (get_or bytes 0 0) ≡ true
    → get_or bytes (prefix_len (is_in_class class.Digit) bytes - 1) 0 < 128
digits_last bytes e =
    let some = digits_some bytes e in
    digit_ascii _ (prefix_len_passes (is_in_class class.Digit) bytes (prefix_len (is_in_class class.Digit) bytes - 1) 0
    (omega arith))

run_last : (bytes : List ℕ) (n : ℕ) → is_in_class class.Letter (get_or bytes 0 0) ≡ true
    → n ≡ prefix_len (is_in_class class.WordByte) (drop 1 bytes) → get_or bytes n 0 < 128
run_last bytes zero e h = letter_ascii _ e
run_last [] (suc n) e h = omega arith
run_last (b ∷ bytes) (suc n) e h =
    word_byte_ascii _ (prefix_len_passes (is_in_class class.WordByte) bytes n 0 (omega arith))

letter_within : (bytes : List ℕ) → is_in_class class.Letter (get_or bytes 0 0) ≡ true → 0 < length bytes
letter_within [] e = cc
letter_within (b ∷ bytes) e = omega arith

pub signs_some : (bytes : List ℕ) → is_in_class class.Sign (get_or bytes 0 0) ≡ true → begins_line_comment bytes ≡ false
    → begins_block_comment bytes ≡ false → 0 < signs_len bytes
unfolding signs_len
signs_some [] e line block = cc
signs_some (b ∷ bytes) e line block = rw (e, line, block) (omega arith)

signs_ascii_at : (b : ℕ) (bytes : List ℕ) (n : ℕ) → is_in_class class.Sign b ≡ true
    → ((k : ℕ) → k < signs_len bytes → get_or bytes k 0 < 128) → n < 1 + signs_len bytes
    → get_or (b ∷ bytes) n 0 < 128
signs_ascii_at b bytes zero sign more h = sign_ascii b sign
signs_ascii_at b bytes (suc n) sign more h = more n (omega arith)

pub signs_ascii : (bytes : List ℕ) (n : ℕ) → n < signs_len bytes → get_or bytes n 0 < 128
unfolding signs_len
signs_ascii [] n h = omega arith
signs_ascii (b ∷ bytes) n h =
    let commented = begins_line_comment (b ∷ bytes) || begins_block_comment (b ∷ bytes) in
    elim (cases_Bool (is_in_class class.Sign b && not commented)) [
      | inl e ↦ signs_ascii_at b bytes n (and_parts (is_in_class class.Sign b) (not commented) e).0
          (λ k below. signs_ascii bytes k below) (rw e at h)
      | inr e ↦ let none = rw e at h in omega arith
    ]

-- the pieces are tokens
pub word_token : (bytes : List ℕ) (n : ℕ) → is_in_class class.Letter (get_or bytes 0 0) ≡ true
    → n ≡ prefix_len (is_in_class class.WordByte) (drop 1 bytes) → IsToken bytes kind.Word (1 + n)
word_token bytes n e h =
    let below : n ≤ length (drop 1 bytes) =
    omega (arith, prefix_len-le-length (is_in_class class.WordByte) (drop 1 bytes)) in
    let letter : get_or bytes 0 0 < 128 = letter_ascii _ e in
    let back : 1 + n - 1 ≡ n = omega arith in
    record {
      some = omega arith;
      within = omega (arith, length-drop 1 bytes, letter_within bytes e);
      first = letter;
      last = rw back (run_last bytes n e h);
      quotes = tt;
      number = tt;
    }

pub digits_token : (bytes : List ℕ) (n value : ℕ) → is_in_class class.Digit (get_or bytes 0 0) ≡ true
    → n ≡ prefix_len (is_in_class class.Digit) bytes → value < 2 ^ 63 → IsToken bytes (kind.Number value) n
digits_token bytes n value e h small = record {
  some = omega (arith, digits_some bytes e);
  within = omega (arith, prefix_len-le-length (is_in_class class.Digit) bytes);
  first = digit_ascii _ e;
  last = rw h (digits_last bytes e);
  quotes = tt;
  number = small;
}

pub signs_token : (bytes : List ℕ) (n : ℕ) (operator : Operator) → 0 < n → n ≤ signs_len bytes
    → signs_len bytes ≤ length bytes → IsToken bytes (kind.Operator operator) n
signs_token bytes n operator some h within = record {
  some = some;
  within = omega arith;
  first = signs_ascii bytes 0 (omega arith);
  last = signs_ascii bytes (n - 1) (omega arith);
  quotes = tt;
  number = tt;
}

-- Each token as it is written is read at the front of a text.
use Rattle.std.proofs.Common.{◌≡◌, ℕ, ◌+◌, ◌*◌, ◌^◌, ◌<◌, ◌||◌, true, false, ◌==◌, List, [], ◌∷◌, ◌++◌, length, Option, Some, refl, sym, ap, ◌∙◌, arith, append_assoc, length-append, eqb-true}
use Rattle.std.specs.Prelude.{codes, nat_lt, slice_index}
use Rattle.std.specs.Char.{is_ascii_hexdigit, digit_value}
use Rattle.std.specs.List.{list_all, prefix_len}
use Rattle.std.specs.Str.{str_to_ascii_lowercase}
use Rattle.std.specs.Str.Parse.{AllDigits, digits_value}
use Rattle.std.proofs.lemmas.Bool.Decides.{nat_tests}
use Rattle.std.proofs.lemmas.Bool.{and_parts, eq-eqb}
use Rattle.std.proofs.lemmas.List.{take_at, drop_at}
use Rattle.sql_tokens.specs.Doubled.{doubled, in_quotes}
use Rattle.copy_both.specs.declared.quoted.QuotedText.{QuotedText}
use Rattle.copy_both.specs.declared.token.Token.{Token}
use Rattle.copy_both.specs.declared.token.Token.TheVariants.{Word, QuotedName, Value, Position, Open, Close, Comma, Semicolon}
use Rattle.copy_both.specs.declared.token.Piece.TheVariants.{Whole}
use Rattle.copy_both.specs.CommandTokens.{longer, quoted, hexadecimal, is_letter, is_word_byte, run, front}
use Rattle.copy_both.proofs.QuotedLoops.{no_quote}
use Rattle.filter_tree.proofs.Tests.{by_test}
use Rattle.stream_laws.specs.CommandSpelling.{IsWord, IsHexadecimal, IsPlace, IsWritten, continues, BeginsWithout}

-- ---- between quotes

abbrev found_as : List ℕ → ℕ → Option QuotedText
found_as meant n = Some (record { meant = meant; length = n })

last_quote : (quote : ℕ) (after : List ℕ) → BeginsWithout (λ b. b == quote) after
    → quoted quote (quote ∷ after) ≡ found_as [] 1
unfolding quoted
last_quote quote [] ends = rw (eq-eqb quote quote refl) refl
last_quote quote (c ∷ after) ends = rw (eq-eqb quote quote refl, ends) refl

two_quotes : (quote : ℕ) (after : List ℕ) → quoted quote (quote ∷ quote ∷ after) ≡ longer 2 quote (quoted quote after)
unfolding quoted
two_quotes quote after = rw (eq-eqb quote quote refl) refl

-- what is written with each quote in it doubled is read as it was
quoted_back : (quote : ℕ) (text after : List ℕ) → BeginsWithout (λ b. b == quote) after
    → quoted quote (doubled quote text ++ (quote ∷ after)) ≡ found_as text (length (doubled quote text) + 1)
quoted_back quote [] after ends = last_quote quote after ends
quoted_back quote (b ∷ text) after ends =
    let more = quoted_back quote text after ends in
    let some : 0 < length (doubled quote text ++ (quote ∷ after)) =
    omega (arith, length-append (doubled quote text) (quote ∷ after)) in
    by_test (b == quote)
    (λ e. rw (e, two_quotes quote (doubled quote text ++ (quote ∷ after)), more, eqb-true b quote e)
    (ap (found_as (quote ∷ text)) (omega arith)))
    (λ e. rw (e, no_quote quote b (doubled quote text ++ (quote ∷ after)) e some, more)
    (ap (found_as (b ∷ text)) (omega arith)))

quotes_length : (quote : ℕ) (text : List ℕ) → length (in_quotes quote text) ≡ 1 + (length (doubled quote text) + 1)
quotes_length quote text = omega (arith, length-append (doubled quote text) (quote ∷ []))

name_front : (name after : List ℕ) → BeginsWithout (λ b. b == 34) after
    → front (in_quotes 34 name ++ after) ≡ Whole (QuotedName name) (length (in_quotes 34 name))
unfolding front
name_front name after ends = rw (append_assoc, quoted_back 34 name after ends, quotes_length 34 name) refl

value_front : (text after : List ℕ) → BeginsWithout (λ b. b == 39) after
    → front (in_quotes 39 text ++ after) ≡ Whole (Value text) (length (in_quotes 39 text))
unfolding front
value_front text after ends = rw (append_assoc, quoted_back 39 text after ends, quotes_length 39 text) refl

-- ---- bytes of a word

-- the longest run of a word's bytes ends before bytes that do not continue it
run_len : (written rest : List ℕ) → list_all is_word_byte written ≡ true → BeginsWithout is_word_byte rest
    → prefix_len is_word_byte (written ++ rest) ≡ length written
run_len [] [] each ends = refl
run_len [] (b ∷ rest) each ends = rw ends refl
run_len (b ∷ written) rest each ends =
    let both = and_parts (is_word_byte b) (list_all is_word_byte written) each in
    rw (both.0, run_len written rest both.1 ends) (omega arith)

byte_front : (b : ℕ) (rest : List ℕ) → is_word_byte b ≡ true → front (b ∷ rest) ≡ run (b ∷ rest)
unfolding front
byte_front b rest e = grind (arith, nat_tests)

run_front : (written rest : List ℕ) → 0 < length written → list_all is_word_byte written ≡ true
    → front (written ++ rest) ≡ run (written ++ rest)
run_front [] rest some each = absurd (omega arith)
run_front (b ∷ written) rest some each = byte_front b (written ++ rest) (and_parts _ _ each).0

-- ---- words

letter_some : (written : List ℕ) → is_letter (slice_index written 0) ≡ true → 0 < length written
letter_some [] e = absurd cc
letter_some (b ∷ written) e = omega arith

word_ends : (rest : List ℕ) → BeginsWithout (λ b. is_word_byte b || b == 47) rest → BeginsWithout is_word_byte rest
word_ends [] ends = tt
word_ends (b ∷ rest) ends = grind (arith, nat_tests, ends)

no_slash : (rest : List ℕ) → BeginsWithout (λ b. is_word_byte b || b == 47) rest → slice_index rest 0 == 47 ≡ false
no_slash [] ends = refl
no_slash (b ∷ rest) ends = grind (arith, nat_tests, ends)

word_run : (written rest : List ℕ) → is_letter (slice_index written 0) ≡ true → list_all is_word_byte written ≡ true
    → BeginsWithout (λ b. is_word_byte b || b == 47) rest
    → run (written ++ rest) ≡ Whole (Word (str_to_ascii_lowercase written)) (length written)
unfolding run
word_run written rest letter each ends =
    rw (
      run_len written rest each (word_ends rest ends),
      take_at written rest (length written) refl,
      drop_at written rest (length written) refl,
      no_slash rest ends,
      letter,
    ) refl

word_front : (text written rest : List ℕ) → IsWord text written → BeginsWithout (continues (Word text)) rest
    → front (written ++ rest) ≡ Whole (Word text) (length written)
word_front text written rest is ends =
    run_front written rest (letter_some written is.first) is.each
    ∙ word_run written rest is.first is.each ends
    ∙ ap (λ meant. Whole (Word meant) (length written)) (sym is.folded)

-- ---- places

hex_digit : (d : ℕ) → digit_value d < 16 → is_ascii_hexdigit d ≡ true
hex_digit d small = grind (arith, nat_tests)

hex_is_word : (d : ℕ) → digit_value d < 16 → is_word_byte d ≡ true
hex_is_word d small = grind (arith, nat_tests)

pub all_hex : (ds : List ℕ) → AllDigits 16 ds → list_all is_ascii_hexdigit ds ≡ true
all_hex [] all = refl
all_hex (d ∷ ds) all = rw (hex_digit d all.0, all_hex ds all.1) refl

all_word : (ds : List ℕ) → AllDigits 16 ds → list_all is_word_byte ds ≡ true
all_word [] all = refl
all_word (d ∷ ds) all = rw (hex_is_word d all.0, all_word ds all.1) refl

number_read : (ds : List ℕ) → IsHexadecimal ds → hexadecimal ds ≡ Some (digits_value 16 ds)
number_read ds is =
    let none : length ds == 0 ≡ false = grind (arith, nat_tests, is.numeral.0) in
    let many : nat_lt 8 (length ds) ≡ false = grind (arith, nat_tests, is.few) in
    rw (none, many, all_hex ds is.numeral.1) refl

place_run : (high low rest : List ℕ) → IsHexadecimal high → IsHexadecimal low → BeginsWithout is_word_byte rest
    → run (high ++ (47 ∷ (low ++ rest)))
    ≡ Whole (Position (digits_value 16 high * 2 ^ 32 + digits_value 16 low)) (length high + 1 + length low)
unfolding run
place_run high low rest before after ends =
    rw (
      run_len high (47 ∷ (low ++ rest)) (all_word high before.numeral.1) refl,
      take_at high (47 ∷ (low ++ rest)) (length high) refl,
      drop_at high (47 ∷ (low ++ rest)) (length high) refl,
      run_len low rest (all_word low after.numeral.1) ends,
      take_at low rest (length low) refl,
      number_read high before,
      number_read low after,
    ) refl

place_front : (place : ℕ) (written rest : List ℕ) → IsPlace place written
    → BeginsWithout is_word_byte rest
    → front (written ++ rest) ≡ Whole (Position place) (length written)
place_front place written rest is ends =
    let long : length written ≡ length is.high + 1 + length is.low =
    omega (arith, ap length is.whole, length-append is.high (47 ∷ is.low)) in
    ap (λ bytes. front (bytes ++ rest)) is.whole
    ∙ ap front (append_assoc is.high (47 ∷ is.low) rest)
    ∙ run_front is.high (47 ∷ (is.low ++ rest)) is.before.numeral.0
    (all_word is.high is.before.numeral.1)
    ∙ place_run is.high is.low rest is.before is.after ends
    ∙ ap (λ n. Whole (Position n) (length is.high + 1 + length is.low)) (sym is.value)
    ∙ ap (Whole (Position place)) (sym long)

-- ---- any token

pub written_some : (token : Token) (bytes : List ℕ) → IsWritten token bytes → 0 < length bytes
written_some (Word text) bytes is = letter_some bytes is.first
written_some (QuotedName text) bytes is = omega (arith, ap length is)
written_some (Value text) bytes is = omega (arith, ap length is)
written_some (Position place) bytes is =
    omega (arith, ap length is.whole, length-append is.high (47 ∷ is.low))
written_some Open bytes is = omega (arith, ap length is)
written_some Close bytes is = omega (arith, ap length is)
written_some Comma bytes is = omega (arith, ap length is)
written_some Semicolon bytes is = omega (arith, ap length is)

as_written : (token : Token) (written bytes rest : List ℕ) → bytes ≡ written
    → front (written ++ rest) ≡ Whole token (length written)
    → front (bytes ++ rest) ≡ Whole token (length bytes)
as_written token written bytes rest is read =
    ap (λ these. front (these ++ rest)) is ∙ read ∙ ap (λ these. Whole token (length these)) (sym is)

open_front : (rest : List ℕ) → front (40 ∷ rest) ≡ Whole Open 1
unfolding front
open_front rest = refl

close_front : (rest : List ℕ) → front (41 ∷ rest) ≡ Whole Close 1
unfolding front
close_front rest = refl

comma_front : (rest : List ℕ) → front (44 ∷ rest) ≡ Whole Comma 1
unfolding front
comma_front rest = refl

semicolon_front : (rest : List ℕ) → front (59 ∷ rest) ≡ Whole Semicolon 1
unfolding front
semicolon_front rest = refl

pub written_front : (token : Token) (bytes rest : List ℕ) → IsWritten token bytes
    → BeginsWithout (continues token) rest
    → front (bytes ++ rest) ≡ Whole token (length bytes)
written_front (Word text) bytes rest is ends = word_front text bytes rest is ends
written_front (QuotedName text) bytes rest is ends =
    as_written (QuotedName text) (in_quotes 34 text) bytes rest is
    (name_front text rest ends)
written_front (Value text) bytes rest is ends =
    as_written (Value text) (in_quotes 39 text) bytes rest is
    (value_front text rest ends)
written_front (Position place) bytes rest is ends = place_front place bytes rest is ends
written_front Open bytes rest is ends = as_written Open (codes "(") bytes rest is (open_front rest)
written_front Close bytes rest is ends = as_written Close (codes ")") bytes rest is (close_front rest)
written_front Comma bytes rest is ends = as_written Comma (codes ",") bytes rest is (comma_front rest)
written_front Semicolon bytes rest is ends = as_written Semicolon (codes ";") bytes rest is (semicolon_front rest)

-- What is read at the front of a text is written there.
use Rattle.std.proofs.Common.{◌≡◌, ℕ, suc, ◌+◌, ◌<◌, ◌||◌, true, false, ◌==◌, Bool, List, [], ◌∷◌, ◌++◌, length, take, drop, Option, Some, None, refl, sym, ap, ◌∙◌, arith, append_assoc, length-append, eqb-true}
use Rattle.std.specs.Prelude.{if◌then◌else◌, nat_lt, not, slice_index}
use Rattle.std.specs.Char.{is_ascii_hexdigit, is_ascii_whitespace, digit_value}
use Rattle.std.specs.List.{list_all, prefix_len}
use Rattle.std.specs.Str.{str_to_ascii_lowercase}
use Rattle.std.specs.Str.Parse.{AllDigits, digits_value}
use Rattle.std.proofs.lemmas.Bool.Decides.{nat_tests}
use Rattle.std.proofs.lemmas.Bool.{and_parts, eq-eqb}
use Rattle.std.proofs.lemmas.List.{take-append-drop}
use Rattle.sql_tokens.specs.Doubled.{doubled, in_quotes}
use Rattle.copy_both.specs.declared.quoted.QuotedText.{QuotedText}
use Rattle.copy_both.specs.declared.token.Token.{Token}
use Rattle.copy_both.specs.declared.token.Token.TheVariants.{Word, QuotedName, Value, Open, Close, Comma, Semicolon}
use Rattle.copy_both.specs.declared.token.Piece.{Piece}
use Rattle.copy_both.specs.declared.token.Piece.TheVariants.{Blank, Whole, Bad}
use Rattle.copy_both.specs.CommandTokens.{longer, quoted, name_piece, value_piece, hexadecimal, place_piece, is_letter, is_word_byte, word, run, mark, front}
use Rattle.filter_tree.proofs.Tests.{by_test}
use Rattle.stream_laws.specs.CommandSpelling.{IsHexadecimal, IsWritten, continues, BeginsWithout}

-- a text begins with this token, as it is written, in this number of bytes
pub record IsAtFront (token : Token) (n : ℕ) (text : List ℕ) : Type 0 where
  pub bytes : List ℕ
  pub rest : List ℕ
  pub whole : text ≡ bytes ++ rest
  pub long : length bytes ≡ n
  pub written : IsWritten token bytes
  pub ends : BeginsWithout (continues token) rest

-- what was read is there
abbrev pub IsThere : List ℕ → Piece → Type 0
IsThere text Blank = is_ascii_whitespace (slice_index text 0) ≡ true
IsThere text (Whole token n) = IsAtFront token n text
IsThere text Bad = Unit {0}

chosen : {X : Type 0} (b : Bool) (x y : X) (P : X → Type 0) → (b ≡ true → P x) → (b ≡ false → P y)
    → P (if b then x else y)
chosen true x y P holds fails = holds refl
chosen false x y P holds fails = fails refl

-- ---- between quotes

-- a text with its quotes doubled, and the last quote
record IsQuoted (quote : ℕ) (bytes : List ℕ) (found : QuotedText) : Type 0 where
  rest : List ℕ
  whole : bytes ≡ doubled quote found.meant ++ (quote ∷ rest)
  long : length (doubled quote found.meant) + 1 ≡ found.length
  ends : BeginsWithout (λ b. b == quote) rest

abbrev IsQuotedIf : ℕ → List ℕ → Option QuotedText → Type 0
IsQuotedIf quote bytes None = Unit {0}
IsQuotedIf quote bytes (Some found) = IsQuoted quote bytes found

quote_last : (quote b : ℕ) (rest : List ℕ) → b == quote ≡ true → BeginsWithout (λ b. b == quote) rest
    → IsQuoted quote (b ∷ rest) (record { meant = []; length = 1 })
quote_last quote b rest e ends = record {
  rest = rest;
  whole = ap (λ first. first ∷ rest) (eqb-true b quote e);
  long = refl;
  ends = ends;
}

other_byte : (quote b : ℕ) (bytes : List ℕ) (x : Option QuotedText) → b == quote ≡ false → IsQuotedIf quote bytes x
    → IsQuotedIf quote (b ∷ bytes) (longer 1 b x)
other_byte quote b bytes None e is = tt
other_byte quote b bytes (Some found) e is = record {
  rest = is.rest;
  whole = rw e (ap (λ more. b ∷ more) is.whole);
  long = rw e (omega (arith, is.long));
  ends = is.ends;
}

quote_pair : (quote b c : ℕ) (bytes : List ℕ) (x : Option QuotedText) → b == quote ≡ true → c == quote ≡ true
    → IsQuotedIf quote bytes x
    → IsQuotedIf quote (b ∷ c ∷ bytes) (longer 2 quote x)
quote_pair quote b c bytes None e f is = tt
quote_pair quote b c bytes (Some found) e f is = record {
  rest = is.rest;
  whole =
      rw (eq-eqb quote quote refl, eqb-true b quote e, eqb-true c quote f)
      (ap (λ more. quote ∷ quote ∷ more) is.whole);
  long = rw (eq-eqb quote quote refl) (omega (arith, is.long));
  ends = is.ends;
}

quoted_is : (quote : ℕ) (bytes : List ℕ) → IsQuotedIf quote bytes (quoted quote bytes)
unfolding quoted
quoted_is quote [] = tt
quoted_is quote (b ∷ []) =
    chosen (b == quote) _ _ (IsQuotedIf quote (b ∷ [])) (λ e. quote_last quote b [] e tt) (λ e. tt)
quoted_is quote (b ∷ c ∷ bytes) =
    chosen (b == quote) _ _ (IsQuotedIf quote (b ∷ c ∷ bytes))
    (λ e. chosen (c == quote) _ _ (IsQuotedIf quote (b ∷ c ∷ bytes))
    (λ f. quote_pair quote b c bytes (quoted quote bytes) e f (quoted_is quote bytes))
    (λ f. quote_last quote b (c ∷ bytes) e f))
    (λ e. other_byte quote b (c ∷ bytes) (quoted quote (c ∷ bytes)) e (quoted_is quote (c ∷ bytes)))

quoted_there : (token : Token) (quote b : ℕ) (bytes : List ℕ) (found : QuotedText) → b == quote ≡ true
    → IsQuoted quote bytes found
    → ((written : List ℕ) → written ≡ in_quotes quote found.meant → IsWritten token written)
    → ((rest : List ℕ) → BeginsWithout (λ b. b == quote) rest → BeginsWithout (continues token) rest)
    → IsAtFront token (1 + found.length) (b ∷ bytes)
quoted_there token quote b bytes found e is written ends = record {
  bytes = in_quotes quote found.meant;
  rest = is.rest;
  whole =
      ap (λ first. first ∷ bytes) (eqb-true b quote e)
      ∙ ap (λ more. quote ∷ more) (is.whole ∙ sym (append_assoc (doubled quote found.meant) (quote ∷ []) is.rest));
  long = omega (arith, is.long, length-append (doubled quote found.meant) (quote ∷ []));
  written = written (in_quotes quote found.meant) refl;
  ends = ends is.rest is.ends;
}

name_there : (b : ℕ) (bytes : List ℕ) (x : Option QuotedText) → b == 34 ≡ true → IsQuotedIf 34 bytes x
    → IsThere (b ∷ bytes) (name_piece x)
name_there b bytes None e is = tt
name_there b bytes (Some found) e is =
    quoted_there (QuotedName found.meant) 34 b bytes found e is (λ written e. e) (λ rest ends. ends)

value_there : (b : ℕ) (bytes : List ℕ) (x : Option QuotedText) → b == 39 ≡ true → IsQuotedIf 39 bytes x
    → IsThere (b ∷ bytes) (value_piece x)
value_there b bytes None e is = tt
value_there b bytes (Some found) e is =
    quoted_there (Value found.meant) 39 b bytes found e is (λ written e. e) (λ rest ends. ends)

-- ---- runs of a word's bytes

one_more : (n : ℕ) → 1 + n ≡ suc n
one_more n = omega arith

run_passes : (text : List ℕ) → list_all is_word_byte (take (prefix_len is_word_byte text) text) ≡ true
run_passes [] = refl
run_passes (b ∷ text) =
    by_test (is_word_byte b) (λ e. rw (e, one_more (prefix_len is_word_byte text), e, run_passes text) refl)
    (λ e. rw e refl)

run_stops : (text : List ℕ) → BeginsWithout is_word_byte (drop (prefix_len is_word_byte text) text)
run_stops [] = tt
run_stops (b ∷ text) =
    by_test (is_word_byte b) (λ e. rw (e, one_more (prefix_len is_word_byte text)) (run_stops text)) (λ e. rw e e)

-- ---- words

word_goes_on : (text rest : List ℕ) → BeginsWithout is_word_byte rest → slice_index rest 0 == 47 ≡ false
    → BeginsWithout (continues (Word text)) rest
word_goes_on text [] stops e = tt
word_goes_on text (b ∷ rest) stops e = rw (stops, e) refl

word_there : (text written rest : List ℕ) → text ≡ written ++ rest → list_all is_word_byte written ≡ true
    → BeginsWithout is_word_byte rest → slice_index rest 0 == 47 ≡ false
    → IsThere text (word written)
word_there text written rest whole each stops e =
    chosen (is_letter (slice_index written 0)) _ _ (IsThere text)
    (λ letter. record {
      bytes = written;
      rest = rest;
      whole = whole;
      long = refl;
      written = record { first = letter; each = each; folded = refl };
      ends = word_goes_on (str_to_ascii_lowercase written) rest stops e;
    })
    (λ other. tt)

-- ---- places

hex_value : (d : ℕ) → is_ascii_hexdigit d ≡ true → digit_value d < 16
hex_value d e = grind (arith, nat_tests)

all_digits : (ds : List ℕ) → list_all is_ascii_hexdigit ds ≡ true → AllDigits 16 ds
all_digits [] all = tt
all_digits (d ∷ ds) all =
    let both = and_parts (is_ascii_hexdigit d) (list_all is_ascii_hexdigit ds) all in
    (hex_value d both.0, all_digits ds both.1)

record IsNumberOf (ds : List ℕ) (n : ℕ) : Type 0 where
  is : IsHexadecimal ds
  value : digits_value 16 ds ≡ n

-- by the tests of its digits
tested : (ds : List ℕ) (none many digital : Bool) (n : ℕ) → length ds == 0 ≡ none → nat_lt 8 (length ds) ≡ many
    → list_all is_ascii_hexdigit ds ≡ digital
    → (if none || many || not digital then None else Some (digits_value 16 ds)) ≡ Some n → IsNumberOf ds n
tested ds true many digital n some few digits e = absurd cc
tested ds false true digital n some few digits e = absurd cc
tested ds false false false n some few digits e = absurd cc
tested ds false false true n some few digits e = record {
  is = record {
    numeral = (grind (arith, nat_tests, some), all_digits ds digits);
    few = grind (arith, nat_tests, few);
  };
  value = cc;
}

number_is : (ds : List ℕ) (n : ℕ) → hexadecimal ds ≡ Some n → IsNumberOf ds n
number_is ds n e = tested ds (length ds == 0) (nat_lt 8 (length ds)) (list_all is_ascii_hexdigit ds) n refl refl refl e

place_there : (text high low rest : List ℕ) (x y : Option ℕ) → text ≡ high ++ (47 ∷ (low ++ rest))
    → BeginsWithout is_word_byte rest → hexadecimal high ≡ x → hexadecimal low ≡ y
    → IsThere text (place_piece (length high + 1 + length low) x y)
place_there text high low rest None y whole stops first second = tt
place_there text high low rest (Some m) None whole stops first second = tt
place_there text high low rest (Some m) (Some n) whole stops first second =
    let before = number_is high m first in
    let after = number_is low n second in
    record {
      bytes = high ++ (47 ∷ low);
      rest = rest;
      whole = whole ∙ sym (append_assoc high (47 ∷ low) rest);
      long = omega (arith, length-append high (47 ∷ low));
      written = record {
        high = high;
        low = low;
        whole = refl;
        before = before.is;
        after = after.is;
        value = rw (before.value, after.value) refl;
      };
      ends = stops;
    }

slash_first : (rest : List ℕ) → slice_index rest 0 == 47 ≡ true → rest ≡ 47 ∷ drop 1 rest
slash_first [] e = absurd cc
slash_first (b ∷ rest) e = ap (λ first. first ∷ rest) (eqb-true b 47 e)

run_there : (text : List ℕ) → IsThere text (run text)
unfolding run
run_there text =
    let n = prefix_len is_word_byte text in
    let rest = drop n text in
    let after = drop 1 rest in
    let m = prefix_len is_word_byte after in
    chosen (slice_index rest 0 == 47) _ _ (IsThere text)
    (λ slash. place_there text (take n text) (take m after) (drop m after) (hexadecimal (take n text))
    (hexadecimal (take m after))
    (sym (take-append-drop n text)
    ∙ ap (λ more. take n text ++ more) (slash_first rest slash)
    ∙ ap (λ more. take n text ++ (47 ∷ more)) (sym (take-append-drop m after)))
    (run_stops after) refl refl)
    (λ other. word_there text (take n text) rest (sym (take-append-drop n text)) (run_passes text) (run_stops text)
    other)

-- ---- any piece

mark_is : (token : Token) (b c : ℕ) (rest : List ℕ) → b == c ≡ true
    → ((written : List ℕ) → written ≡ c ∷ [] → IsWritten token written)
    → BeginsWithout (continues token) rest
    → IsAtFront token 1 (b ∷ rest)
mark_is token b c rest e written ends = record {
  bytes = b ∷ [];
  rest = rest;
  whole = refl;
  long = refl;
  written = written (b ∷ []) (ap (λ (byte : ℕ). byte ∷ []) (eqb-true b c e));
  ends = ends;
}

always_ends : (token : Token) (rest : List ℕ) → ((b : ℕ) → continues token b ≡ false)
    → BeginsWithout (continues token) rest
always_ends token [] e = tt
always_ends token (b ∷ rest) e = e b

mark_there : (b : ℕ) (rest : List ℕ) → IsThere (b ∷ rest) (mark b)
mark_there b rest =
    chosen (b == 40) _ _ (IsThere (b ∷ rest))
    (λ e. mark_is Open b 40 rest e (λ written e. e) (always_ends Open rest (λ b. refl)))
    (λ _. chosen (b == 41) _ _ (IsThere (b ∷ rest))
    (λ e. mark_is Close b 41 rest e (λ written e. e) (always_ends Close rest (λ b. refl)))
    (λ _. chosen (b == 44) _ _ (IsThere (b ∷ rest))
    (λ e. mark_is Comma b 44 rest e (λ written e. e) (always_ends Comma rest (λ b. refl)))
    (λ _. chosen (b == 59) _ _ (IsThere (b ∷ rest))
    (λ e. mark_is Semicolon b 59 rest e (λ written e. e) (always_ends Semicolon rest (λ b. refl))) (λ _. tt))))

pub front_there : (b : ℕ) (bytes : List ℕ) → IsThere (b ∷ bytes) (front (b ∷ bytes))
unfolding front
front_there b bytes =
    chosen (is_ascii_whitespace b) _ _ (IsThere (b ∷ bytes)) (λ e. e)
    (λ _. chosen (b == 34) _ _ (IsThere (b ∷ bytes))
    (λ e. name_there b bytes (quoted 34 bytes) e (quoted_is 34 bytes))
    (λ _. chosen (b == 39) _ _ (IsThere (b ∷ bytes))
    (λ e. value_there b bytes (quoted 39 bytes) e (quoted_is 39 bytes))
    (λ _. chosen (is_word_byte b) _ _ (IsThere (b ∷ bytes)) (λ e. run_there (b ∷ bytes)) (λ _. mark_there b bytes))))

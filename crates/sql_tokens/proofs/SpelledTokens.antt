-- The text of a value, read from the front: each piece of it is the token as which it was written.
use Rattle.std.proofs.Common.{◌≡◌, ℕ, suc, ◌+◌, ◌-◌, ◌^◌, ◌<◌, ◌≤◌, Bool, true, false, ◌==◌, List, [], ◌∷◌, ◌++◌, length, get_or, Some, inl, inr, refl, ap, ◌∙◌, arith, rules, append_assoc, length-append, eqb-true}
use Rattle.std.specs.Prelude.{nat_lt, codes, Contains, ◌⊎◌}
use Rattle.std.specs.Char.{is_ascii_digit}
use Rattle.std.specs.Fmt.{decimal}
use Rattle.std.specs.List.{prefix_len}
use Rattle.std.specs.Str.{all_ascii_digits}
use Rattle.std.proofs.lemmas.Bool.{and_parts, lt-ltb}
use Rattle.std.proofs.lemmas.Bool.Decides.{nat_tests}
use Rattle.std.proofs.lemmas.Fmt.{digits_decimal, digits_value-decimal, decimal_nonempty}
use Rattle.std.proofs.lemmas.List.{take_at, drop_at}
use Rattle.std.proofs.lemmas.Str.Parse.{IsNumeralModel, numerals_by_fold}
use Rattle.sql_tokens.specs.declared.bytes.Class.TheVariants as class
use Rattle.sql_tokens.specs.declared.kinds.Operator.TheVariants.{Minus}
use Rattle.sql_tokens.specs.declared.kinds.TokenKind.{TokenKind}
use Rattle.sql_tokens.specs.declared.kinds.TokenKind.TheVariants.{Word, Number, Text, Operator, Open, Close, Comma}
use Rattle.sql_tokens.specs.declared.kinds.Piece.TheVariants.{Whole}
use Rattle.sql_tokens.specs.Bytes.{is_in_class}
use Rattle.sql_tokens.specs.Comments.{longer}
use Rattle.sql_tokens.specs.Quotes.{inner_len, undoubled, front_string}
use Rattle.sql_tokens.specs.Numbers.{number_from, number_of, front_number}
use Rattle.sql_tokens.specs.Operators.{signs_len, operator}
use Rattle.sql_tokens.specs.Front.{front, front_word}
use Rattle.sql_tokens.specs.Lexed.{Lexeme, Then, tokens_from}
use Rattle.sql_tokens.specs.Meant.{between_quotes}
use Rattle.sql_tokens.proofs.Lexing.{tokens_from-skip}
use Rattle.sql_tokens.specs.Doubled.{doubled, in_quotes}

-- what follows a value of a row: a comma, or the parenthesis that closes it
abbrev pub EndsValue : ℕ → Type 0
EndsValue next = (next ≡ 44) ⊎ (next ≡ 41)

-- ---- from a piece to a token

abbrev pub lexeme : TokenKind → ℕ → List ℕ → Lexeme
lexeme kind place text = record { kind = kind; place = place; text = text }

-- the bytes of a token come before other bytes
abbrev pub Begins : TokenKind → ℕ → List ℕ → List ℕ → Type 0
Begins kind place text rest =
    tokens_from place 0 (text ++ rest) ≡ Then (lexeme kind place text) (tokens_from (place + length text) 0 rest)

token_here : (place : ℕ) (kind : TokenKind) (text rest : List ℕ) → 0 < length text
    → front (text ++ rest) ≡ Whole kind (length text) → Begins kind place text rest
unfolding tokens_from
token_here place kind [] rest some e = absurd (omega arith)
token_here place kind (b ∷ text) rest some e =
    let back : length (b ∷ text) - 1 ≡ length text = omega arith in
    let there : place + 1 + length text ≡ place + length (b ∷ text) = omega arith in
    let long : length text ≤ length (text ++ rest) = omega (arith, length-append text rest) in
    rw (
      e,
      back,
      tokens_from-skip (place + 1) (length text) (text ++ rest) long,
      drop_at text rest (length text) refl,
      take_at (b ∷ text) rest (length (b ∷ text)) refl,
      there,
    ) refl

pub space_passes : (place : ℕ) (rest : List ℕ) → tokens_from place 0 (32 ∷ rest) ≡ tokens_from (place + 1) 0 rest
unfolding tokens_from front
space_passes place rest = refl

-- ---- words and marks

null_front : (next : ℕ) (rest : List ℕ) → EndsValue next → front (codes "NULL" ++ (next ∷ rest)) ≡ Whole Word 4
unfolding front front_word
null_front next rest ends = elim ends [ inl e ↦ rw e refl | inr e ↦ rw e refl ]

true_front : (next : ℕ) (rest : List ℕ) → EndsValue next → front (codes "TRUE" ++ (next ∷ rest)) ≡ Whole Word 4
unfolding front front_word
true_front next rest ends = elim ends [ inl e ↦ rw e refl | inr e ↦ rw e refl ]

false_front : (next : ℕ) (rest : List ℕ) → EndsValue next → front (codes "FALSE" ++ (next ∷ rest)) ≡ Whole Word 5
unfolding front front_word
false_front next rest ends = elim ends [ inl e ↦ rw e refl | inr e ↦ rw e refl ]

open_front : (rest : List ℕ) → front (40 ∷ rest) ≡ Whole Open 1
unfolding front
open_front rest = refl

close_front : (rest : List ℕ) → front (41 ∷ rest) ≡ Whole Close 1
unfolding front
close_front rest = refl

comma_front : (rest : List ℕ) → front (44 ∷ rest) ≡ Whole Comma 1
unfolding front
comma_front rest = refl

-- ---- numbers

-- the test and the fold are those of decimal numerals
own : IsNumeralModel (λ digits. all_ascii_digits digits ≡ true) (number_from 0)
unfolding number_from
own = numerals_by_fold _ (search rules) number_from (search rules)

digit_front : (digit : ℕ) (rest : List ℕ) → is_ascii_digit digit ≡ true
    → front (digit ∷ rest) ≡ front_number (digit ∷ rest)
unfolding front
digit_front digit rest e = grind (arith, nat_tests)

digits_len : (digits : List ℕ) (next : ℕ) (rest : List ℕ) → all_ascii_digits digits ≡ true → EndsValue next
    → prefix_len (is_in_class class.Digit) (digits ++ (next ∷ rest)) ≡ length digits
digits_len [] next rest e ends = elim ends [ inl f ↦ rw f refl | inr f ↦ rw f refl ]
digits_len (digit ∷ digits) next rest e ends =
    let both = and_parts (is_ascii_digit digit) (all_ascii_digits digits) e in
    let more = digits_len digits next rest both.1 ends in
    rw both.0 (omega (arith, more))

byte_after : (digits : List ℕ) (next : ℕ) (rest : List ℕ) → get_or (digits ++ (next ∷ rest)) (length digits) 0 ≡ next
byte_after [] next rest = refl
byte_after (digit ∷ digits) next rest = byte_after digits next rest

digits_number : (digits : List ℕ) (n next : ℕ) (rest : List ℕ) → all_ascii_digits digits ≡ true → number_of digits ≡ n
    → n < 2 ^ 63 → EndsValue next
    → front_number (digits ++ (next ∷ rest)) ≡ Whole (Number n) (length digits)
unfolding front_number
digits_number digits n next rest digital value small ends =
    let fits : nat_lt n (2 ^ 63) ≡ true = lt-ltb n (2 ^ 63) small in
    rw (
      digits_len digits next rest digital ends,
      take_at digits (next ∷ rest) (length digits) refl,
      byte_after digits next rest,
      value,
    )
    (elim ends [ inl e ↦ rw (e, fits) refl | inr e ↦ rw (e, fits) refl ])

digits_front : (digits : List ℕ) (rest : List ℕ) → 0 < length digits → all_ascii_digits digits ≡ true
    → front (digits ++ rest) ≡ front_number (digits ++ rest)
digits_front [] rest some e = absurd (omega arith)
digits_front (digit ∷ digits) rest some e = digit_front digit (digits ++ rest) (and_parts _ _ e).0

number_front : (n next : ℕ) (rest : List ℕ) → n < 2 ^ 63 → EndsValue next
    → front (decimal n ++ (next ∷ rest)) ≡ Whole (Number n) (length (decimal n))
number_front n next rest small ends =
    let digital = digits_decimal own n (omega arith) in
    digits_front (decimal n) (next ∷ rest) (decimal_nonempty n (omega arith)) digital
    ∙ digits_number (decimal n) n next rest digital (digits_value-decimal own n (omega arith)) small ends

pub digit_no_sign : (digit : ℕ) (rest : List ℕ) → is_ascii_digit digit ≡ true → signs_len (digit ∷ rest) ≡ 0
unfolding signs_len
digit_no_sign digit rest e = grind (arith, nat_tests)

pub one_sign : (rest : List ℕ) → get_or rest 0 0 == 45 ≡ false → signs_len (45 ∷ rest) ≡ 1 + signs_len rest
unfolding signs_len
one_sign rest e = rw e refl

pub minus_len : (digit : ℕ) (rest : List ℕ) → is_ascii_digit digit ≡ true → signs_len (45 ∷ digit ∷ rest) ≡ 1
minus_len digit rest e =
    let no_comment : digit == 45 ≡ false = grind (arith, nat_tests) in
    omega (arith, one_sign (digit ∷ rest) no_comment, digit_no_sign digit rest e)

minus_digit_front : (digit : ℕ) (rest : List ℕ) → is_ascii_digit digit ≡ true
    → front (45 ∷ digit ∷ rest) ≡ Whole (Operator Minus) 1
unfolding front operator
minus_digit_front digit rest e =
    let no_comment : digit == 45 ≡ false = grind (arith, nat_tests) in
    rw (no_comment, minus_len digit rest e) refl

minus_digits_front : (digits rest : List ℕ) → 0 < length digits → all_ascii_digits digits ≡ true
    → front (45 ∷ (digits ++ rest)) ≡ Whole (Operator Minus) 1
minus_digits_front [] rest some e = absurd (omega arith)
minus_digits_front (digit ∷ digits) rest some e = minus_digit_front digit (digits ++ rest) (and_parts _ _ e).0

minus_front : (n : ℕ) (rest : List ℕ) → n < 2 ^ 64 → front (45 ∷ (decimal n ++ rest)) ≡ Whole (Operator Minus) 1
minus_front n rest small = minus_digits_front (decimal n) rest (decimal_nonempty n small) (digits_decimal own n small)

-- ---- texts

by_test : {P : Type 0} (b : Bool) → (b ≡ true → P) → (b ≡ false → P) → P
by_test true holds fails = holds refl
by_test false holds fails = fails refl

no_quote : (b : ℕ) (tail : List ℕ) → b == 0 ≡ false → b == 39 ≡ false → 0 < length tail
    → inner_len 39 (b ∷ tail) ≡ longer 1 (inner_len 39 tail)
unfolding inner_len
no_quote b [] z e some = absurd (omega arith)
no_quote b (c ∷ tail) z e some = rw (z, e) refl

closing_quote : (next : ℕ) (rest : List ℕ) → EndsValue next → inner_len 39 (39 ∷ next ∷ rest) ≡ Some 0
unfolding inner_len
closing_quote next rest ends = elim ends [ inl e ↦ rw e refl | inr e ↦ rw e refl ]

not_first : (b : ℕ) (text : List ℕ) → ¬ Contains (b ∷ text) 0 → b == 0 ≡ false
not_first b text clean = by_test (b == 0) (λ e. absurd (clean (0, omega arith, eqb-true b 0 e))) (λ e. e)

not_later : (b : ℕ) (text : List ℕ) → ¬ Contains (b ∷ text) 0 → ¬ Contains text 0
not_later b text clean found = clean (suc found.0, omega (arith, found.1), found.2)

inner : (text : List ℕ) (next : ℕ) (rest : List ℕ) → ¬ Contains text 0 → EndsValue next
    → inner_len 39 (doubled 39 text ++ (39 ∷ next ∷ rest)) ≡ Some (length (doubled 39 text))
unfolding inner_len
inner [] next rest clean ends = closing_quote next rest ends
inner (b ∷ text) next rest clean ends =
    let more = inner text next rest (not_later b text clean) ends in
    let some : 0 < length (doubled 39 text ++ (39 ∷ next ∷ rest)) =
    omega (arith, length-append (doubled 39 text) (39 ∷ next ∷ rest)) in
    by_test (b == 39)
    (λ e. rw (e, more) (ap Some (omega arith)))
    (λ e. rw (e, no_quote b (doubled 39 text ++ (39 ∷ next ∷ rest)) (not_first b text clean) e some, more)
    (ap Some (omega arith)))

kept : (b : ℕ) (tail : List ℕ) → b == 39 ≡ false → undoubled 39 (b ∷ tail) ≡ b ∷ undoubled 39 tail
unfolding undoubled
kept b [] e = refl
kept b (c ∷ tail) e = rw e refl

undoubled-doubled : (text : List ℕ) → undoubled 39 (doubled 39 text) ≡ text
unfolding undoubled
undoubled-doubled [] = refl
undoubled-doubled (b ∷ text) =
    let more = undoubled-doubled text in
    by_test (b == 39)
    (λ e. rw (e, more, eqb-true b 39 e) refl)
    (λ e. rw (e, kept b (doubled 39 text) e, more) refl)

string_front : (text : List ℕ) (next : ℕ) (rest : List ℕ) → ¬ Contains text 0 → length text ≤ 65535 → EndsValue next
    → front (39 ∷ (doubled 39 text ++ (39 ∷ next ∷ rest))) ≡ Whole Text (length (doubled 39 text) + 2)
unfolding front front_string
string_front text next rest clean short ends =
    let few : nat_lt 65535 (length text) ≡ false = grind (arith, nat_tests) in
    rw (
      inner text next rest clean ends,
      take_at (doubled 39 text) (39 ∷ next ∷ rest) (length (doubled 39 text)) refl,
      undoubled-doubled text,
      few,
    ) refl

-- ---- the tokens

pub open_token : (place : ℕ) (rest : List ℕ) → Begins Open place (40 ∷ []) rest
open_token place rest = token_here place Open (40 ∷ []) rest (omega arith) (open_front rest)

pub close_token : (place : ℕ) (rest : List ℕ) → Begins Close place (41 ∷ []) rest
close_token place rest = token_here place Close (41 ∷ []) rest (omega arith) (close_front rest)

pub comma_token : (place : ℕ) (rest : List ℕ) → Begins Comma place (44 ∷ []) rest
comma_token place rest = token_here place Comma (44 ∷ []) rest (omega arith) (comma_front rest)

pub null_token : (place next : ℕ) (rest : List ℕ) → EndsValue next → Begins Word place (codes "NULL") (next ∷ rest)
null_token place next rest ends =
    token_here place Word (codes "NULL") (next ∷ rest) (omega arith) (null_front next rest ends)

pub true_token : (place next : ℕ) (rest : List ℕ) → EndsValue next → Begins Word place (codes "TRUE") (next ∷ rest)
true_token place next rest ends =
    token_here place Word (codes "TRUE") (next ∷ rest) (omega arith) (true_front next rest ends)

pub false_token : (place next : ℕ) (rest : List ℕ) → EndsValue next → Begins Word place (codes "FALSE") (next ∷ rest)
false_token place next rest ends =
    token_here place Word (codes "FALSE") (next ∷ rest) (omega arith) (false_front next rest ends)

pub number_token : (place n next : ℕ) (rest : List ℕ) → n < 2 ^ 63 → EndsValue next
    → Begins (Number n) place (decimal n) (next ∷ rest)
number_token place n next rest small ends =
    token_here place (Number n) (decimal n) (next ∷ rest) (decimal_nonempty n (omega arith))
    (number_front n next rest small ends)

pub minus_token : (place n : ℕ) (rest : List ℕ) → n < 2 ^ 63
    → Begins (Operator Minus) place (45 ∷ []) (decimal n ++ rest)
minus_token place n rest small =
    token_here place (Operator Minus) (45 ∷ []) (decimal n ++ rest) (omega arith) (minus_front n rest (omega arith))

pub string_token : (place : ℕ) (text : List ℕ) (next : ℕ) (rest : List ℕ) → ¬ Contains text 0 → length text ≤ 65535
    → EndsValue next → Begins Text place (in_quotes 39 text) (next ∷ rest)
string_token place text next rest clean short ends =
    let whole : length (in_quotes 39 text) ≡ length (doubled 39 text) + 2 =
    omega (arith, length-append (doubled 39 text) (39 ∷ [])) in
    token_here place Text (in_quotes 39 text) (next ∷ rest) (omega arith)
    (rw (append_assoc, whole) (string_front text next rest clean short ends))

-- and what they mean
pub string_says : (text : List ℕ) → undoubled 39 (between_quotes (in_quotes 39 text)) ≡ text
string_says text =
    let inner_length : length (in_quotes 39 text) - 2 ≡ length (doubled 39 text) =
    omega (arith, length-append (doubled 39 text) (39 ∷ [])) in
    rw (inner_length, take_at (doubled 39 text) (39 ∷ []) (length (doubled 39 text)) refl) (undoubled-doubled text)

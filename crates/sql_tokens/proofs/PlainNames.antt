-- A token that is a name has 1 to 63 bytes once it is in lower case, or without its quotes, and none of them is zero.
-- In a text that is UTF-8 they are UTF-8.
use Rattle.std.proofs.Common.{◌≡◌, ℕ, zero, suc, ◌+◌, ◌-◌, ◌<◌, ◌≤◌, Bool, true, false, ◌&&◌, ◌==◌, List, [], ◌∷◌, length, get_or, take, drop, IsUtf8, refl, sym, ap, subst, ◌∙◌, arith, length-drop}
use Rattle.std.specs.Prelude.{nat_lt, if◌then◌else◌, Option, Some, None, IfSome, Contains, slice_index}
use Rattle.std.specs.Char.{to_ascii_lowercase}
use Rattle.std.specs.List.{prefix_len}
use Rattle.std.specs.Str.{str_to_ascii_lowercase}
use Rattle.std.proofs.lemmas.Bool.{eqb-true}
use Rattle.std.proofs.lemmas.Bool.Decides.{nat_tests}
use Rattle.std.proofs.lemmas.List.{length-map, length-take-le}
use Rattle.std.proofs.lemmas.List.Sums.{prefix_len-le-length}
use Rattle.sql_tokens.specs.declared.bytes.Class.TheVariants as class
use Rattle.sql_tokens.specs.declared.kinds.Operator.{Operator}
use Rattle.sql_tokens.specs.declared.kinds.TokenKind.TheVariants as t
use Rattle.sql_tokens.specs.declared.kinds.FaultKind.TheVariants as fault
use Rattle.sql_tokens.specs.declared.kinds.Piece.{Piece}
use Rattle.sql_tokens.specs.declared.kinds.Piece.TheVariants.{Blank, Whole, Faulty}
use Rattle.sql_tokens.specs.Bytes.{is_in_class}
use Rattle.sql_tokens.specs.Comments.{longer, begins_line_comment, begins_block_comment, line_comment, block_comment}
use Rattle.sql_tokens.specs.Front.{comment_piece, is_string_form, front_word, punctuation, front}
use Rattle.sql_tokens.specs.Meant.{between_quotes}
use Rattle.sql_tokens.specs.Numbers.{number_of, front_number}
use Rattle.sql_tokens.specs.Operators.{operator_len, operator_of, operator_piece, signs_len, operator}
use Rattle.sql_tokens.specs.Quotes.{inner_len, undoubled, name_piece, string_piece, quoted, quoted_name, front_string}
use Rattle.sql_tokens.proofs.Cuts.{between_quotes-cut}
use Rattle.sql_tokens.proofs.NameTexts.{AreTexts, texts_from, word_utf8, inner_utf8, undoubled_utf8}
use Rattle.sql_tokens.proofs.QuoteLoops.{inner_len-at_quote}
use Rattle.sql_tokens.specs.Lexed.{Lexed, begins, tokens_from, at}
use Rattle.sql_tokens.specs.PlainNames.{IsPlainName, IsPlainToken, AreTokensPlain}

-- the token at the front of these bytes, if it is a name
abbrev NamesOf : List ℕ → Piece → Type 0
NamesOf bytes (Blank n) = Unit {0}
NamesOf bytes (Whole kind n) = IsPlainToken kind (take n bytes)
NamesOf bytes (Faulty fault) = Unit {0}

module _ (bytes : List ℕ) where
  either : (b : Bool) (one other : Piece) → (b ≡ true → NamesOf bytes one) → (b ≡ false → NamesOf bytes other)
      → NamesOf bytes (if b then one else other)
  either true one other h k = h refl
  either false one other h k = k refl

-- ---- words

no_zero_in : (xs : List ℕ) → ((k : ℕ) → k < length xs → get_or xs k 0 ≡ 0 → ⊥) → ¬ Contains xs 0
no_zero_in xs none = λ h. none h.0 h.1 h.2

lower_some : (b : ℕ) → to_ascii_lowercase b ≡ 0 → b ≡ 0
lower_some b e = grind (arith, nat_tests)

letter_some : (b : ℕ) → is_in_class class.Letter b ≡ true → 0 < b
letter_some b e = grind (arith, nat_tests)

word_byte_some : (b : ℕ) → is_in_class class.WordByte b ≡ true → 0 < b
word_byte_some b e = grind (arith, nat_tests)

abbrev IsSome : ℕ → Type 0
IsSome b = 0 < b

-- bytes, none of which is zero
abbrev AreSome : List ℕ → Type 0
AreSome [] = Unit {0}
AreSome (b ∷ bytes) = IsSome b × AreSome bytes

run_by : (b : ℕ) (bytes : List ℕ) (n : ℕ) (is : Bool) → is_in_class class.WordByte b ≡ is → AreSome (take n bytes)
    → AreSome (take (if is then 1 + n else 0) (b ∷ bytes))
run_by b bytes n true e h =
    let counted : suc n ≡ 1 + n = omega arith in
    subst (λ k. AreSome (take k (b ∷ bytes))) counted (word_byte_some b e, h)
run_by b bytes n false e h = tt

run_some : (bytes : List ℕ) → AreSome (take (prefix_len (is_in_class class.WordByte) bytes) bytes)
run_some [] = tt
run_some (b ∷ bytes) =
    run_by b bytes (prefix_len (is_in_class class.WordByte) bytes) (is_in_class class.WordByte b) refl (run_some bytes)

none_zero : (bytes : List ℕ) → AreSome bytes → ¬ Contains bytes 0
none_zero [] some h = omega (arith, h.1)
none_zero (b ∷ bytes) some (zero, within, is) = omega (arith, is, some.0)
none_zero (b ∷ bytes) some (suc k, within, is) = none_zero bytes some.1 (k, omega (arith, within), is)

lower_are_some : (bytes : List ℕ) → AreSome bytes → AreSome (str_to_ascii_lowercase bytes)
lower_are_some [] h = tt
lower_are_some (b ∷ bytes) h = (lower_is_some b h.0, lower_are_some bytes h.1)
  where
    lower_is_some : (c : ℕ) → 0 < c → 0 < to_ascii_lowercase c
    lower_is_some c some = grind (arith, nat_tests)

plain_word : (bytes : List ℕ) → is_in_class class.Letter (slice_index bytes 0) ≡ true
    → 1 + prefix_len (is_in_class class.WordByte) (drop 1 bytes) ≤ 63
    → IsPlainName (str_to_ascii_lowercase (take (1 + prefix_len (is_in_class class.WordByte) (drop 1 bytes)) bytes))
plain_word [] letter short = absurd cc
plain_word (b ∷ bytes) letter short =
    let n = prefix_len (is_in_class class.WordByte) bytes in
    let counted : 1 + n ≡ suc n = omega arith in
    let within = prefix_len-le-length (is_in_class class.WordByte) bytes in
    let taken : take (1 + n) (b ∷ bytes) ≡ b ∷ take n bytes = ap (λ k. take k (b ∷ bytes)) counted in
    let long : length (take n bytes) ≡ n = length-take-le n bytes within in
    let text = b ∷ take n bytes in
    subst (λ name. IsPlainName (str_to_ascii_lowercase name)) (sym taken)
    (record {
      some = omega (arith, length-map text to_ascii_lowercase);
      short = omega (arith, length-map text to_ascii_lowercase, long, short);
      no_zero = none_zero (str_to_ascii_lowercase text) (lower_are_some text (letter_some b letter, run_some bytes));
      utf8 = word_utf8 b bytes letter;
    })

word_names : (bytes : List ℕ) → is_in_class class.Letter (slice_index bytes 0) ≡ true → NamesOf bytes (front_word bytes)
unfolding front_word
word_names bytes letter =
    let n = 1 + prefix_len (is_in_class class.WordByte) (drop 1 bytes) in
    either bytes (n == 1 && is_string_form (slice_index bytes 0) (slice_index bytes 1) (slice_index bytes 2))
    (Faulty fault.StringForm) _ (λ _. tt)
    (λ _. either bytes (nat_lt 63 n) (Faulty fault.NameTooLong) (Whole t.Word n) (λ _. tt)
    (λ e. plain_word bytes letter (grind (arith, nat_tests))))

-- ---- quoted names

-- there is no zero byte before the closing quote
inner_some : (quote : ℕ) → 0 < quote → (bytes : List ℕ) → IfSome (inner_len quote bytes) (λ n. AreSome (take n bytes))
unfolding inner_len
inner_some quote q [] = tt
inner_some quote q (b ∷ []) = one (b == 0) (b == quote)
  where
    one : (is_zero is_quote : Bool)
        → IfSome (if is_zero then None else (if is_quote then Some 0 else None)) (λ n. AreSome (take n (b ∷ [])))
    one true is_quote = tt
    one false true = tt
    one false false = tt
inner_some quote q (b ∷ c ∷ bytes) =
    more (b == 0) refl (b == quote) refl (c == quote) refl (inner_len quote bytes) (inner_some quote q bytes)
    (inner_len quote (c ∷ bytes)) (inner_some quote q (c ∷ bytes))
  where
    two : (found : Option ℕ) → b ≡ quote → c ≡ quote → IfSome found (λ n. AreSome (take n bytes))
        → IfSome (longer 2 found) (λ n. AreSome (take n (b ∷ c ∷ bytes)))
    two None e f h = tt
    two (Some n) e f h =
        let counted : 2 + n ≡ suc (suc n) = omega arith in
        subst (λ k. AreSome (take k (b ∷ c ∷ bytes))) (sym counted) (omega (arith, q, e), (omega (arith, q, f), h))

    one : (found : Option ℕ) → 0 < b → IfSome found (λ n. AreSome (take n (c ∷ bytes)))
        → IfSome (longer 1 found) (λ n. AreSome (take n (b ∷ c ∷ bytes)))
    one None some h = tt
    one (Some n) some h =
        let counted : 1 + n ≡ suc n = omega arith in
        subst (λ k. AreSome (take k (b ∷ c ∷ bytes))) (sym counted) (some, h)

    more : (is_zero : Bool) → (b == 0) ≡ is_zero → (is_quote : Bool) → (b == quote) ≡ is_quote → (again : Bool)
        → (c == quote) ≡ again
        → (later : Option ℕ) → IfSome later (λ n. AreSome (take n bytes)) → (next : Option ℕ)
        → IfSome next (λ n. AreSome (take n (c ∷ bytes)))
        → IfSome (if is_zero then
        None else (if is_quote then (if again then longer 2 later else Some 0) else longer 1 next))
        (λ n. AreSome (take n (b ∷ c ∷ bytes)))
    more true z is_quote e again f later h next k = tt
    more false z true e true f later h next k = two later (eqb-true b quote e) (eqb-true c quote f) h
    more false z true e false f later h next k = tt
    more false z false e again f later h next k = one next (grind (arith, nat_tests)) k

undoubled_some : (quote : ℕ) → 0 < quote → (bytes : List ℕ) → AreSome bytes → AreSome (undoubled quote bytes)
unfolding undoubled
undoubled_some quote q [] h = tt
undoubled_some quote q (b ∷ []) h = h
undoubled_some quote q (b ∷ c ∷ bytes) h =
    either_one (b == quote && c == quote) (undoubled_some quote q bytes h.1.1)
    (undoubled_some quote q (c ∷ bytes) h.1)
  where
    either_one : (is : Bool) → AreSome (undoubled quote bytes) → AreSome (undoubled quote (c ∷ bytes))
        → AreSome (if is then quote ∷ undoubled quote bytes else b ∷ undoubled quote (c ∷ bytes))
    either_one true one other = (q, one)
    either_one false one other = (h.0, other)

undoubled_any : (quote : ℕ) (bytes : List ℕ) → 0 < length bytes → 0 < length (undoubled quote bytes)
unfolding undoubled
undoubled_any quote [] some = absurd (omega arith)
undoubled_any quote (b ∷ []) some = omega arith
undoubled_any quote (b ∷ c ∷ bytes) some = either_one (b == quote && c == quote)
  where
    either_one : (is : Bool)
        → 0 < length (if is then quote ∷ undoubled quote bytes else b ∷ undoubled quote (c ∷ bytes))
    either_one true = omega arith
    either_one false = omega arith

plain_quoted : (bytes : List ℕ) (n : ℕ) → n < length (drop 1 bytes) → AreSome (take n (drop 1 bytes))
    → IsUtf8 (take n (drop 1 bytes)) → 0 < n → length (undoubled 34 (take n (drop 1 bytes))) ≤ 63
    → IsPlainName (undoubled 34 (between_quotes (take (n + 2) bytes)))
plain_quoted bytes n within none utf8 some short =
    let inner = take n (drop 1 bytes) in
    let long : 0 + (n + 2) ≤ length bytes = omega (arith, within, length-drop 1 bytes) in
    let less : 0 + (n + 2) - 1 - (0 + 1) ≡ n = omega arith in
    let one : 0 + 1 ≡ 1 = omega arith in
    let cut : between_quotes (take (n + 2) bytes) ≡ inner =
    between_quotes-cut bytes 0 (n + 2) (omega arith) long ∙ ap (λ k. take k (drop (0 + 1) bytes)) less in
    let there : length inner ≡ n = length-take-le n (drop 1 bytes) (omega (arith, within)) in
    subst (λ text. IsPlainName (undoubled 34 text)) (sym cut)
    (record {
      some = undoubled_any 34 inner (omega (arith, there, some));
      short = short;
      no_zero = none_zero (undoubled 34 inner) (undoubled_some 34 (omega arith) inner none);
      utf8 = undoubled_utf8 34 inner [] (omega arith) utf8;
    })

quoted_by : (bytes : List ℕ) (found : Option ℕ) → slice_index bytes 0 ≡ 34 → IsUtf8 bytes
    → IfSome found (λ n. (n < length (drop 1 bytes)) × (get_or (drop 1 bytes) n 0 ≡ 34))
    → IfSome found (λ n. AreSome (take n (drop 1 bytes))) → NamesOf bytes (quoted 34 name_piece (drop 1 bytes) found)
quoted_by bytes None first utf8 h k = tt
quoted_by bytes (Some n) first utf8 h k =
    let meant = length (undoubled 34 (take n (drop 1 bytes))) in
    either bytes (n == 0) (Faulty fault.BadToken) _ (λ _. tt)
    (λ e. either bytes (nat_lt 63 meant) (Faulty fault.NameTooLong) (Whole t.QuotedName (n + 2)) (λ _. tt)
    (λ f. plain_quoted bytes n h.0 k (inner_utf8 bytes n first utf8 h.0 h.1) (grind (arith, nat_tests))
    (grind (arith, nat_tests))))

quoted_names : (bytes : List ℕ) → slice_index bytes 0 ≡ 34 → IsUtf8 bytes → NamesOf bytes (quoted_name bytes)
unfolding quoted_name
quoted_names bytes first utf8 =
    quoted_by bytes (inner_len 34 (drop 1 bytes)) first utf8 (inner_len-at_quote 34 (drop 1 bytes))
    (inner_some 34 (omega arith) (drop 1 bytes))

-- ---- other tokens are not names

comment_names : (bytes : List ℕ) (found : Option ℕ) → NamesOf bytes (comment_piece found)
comment_names bytes None = tt
comment_names bytes (Some n) = tt

number_names : (bytes : List ℕ) → NamesOf bytes (front_number bytes)
unfolding front_number
number_names bytes =
    let n = prefix_len (is_in_class class.Digit) bytes in
    either bytes (is_in_class class.Letter (slice_index bytes n)) _ _ (λ _. tt)
    (λ _. either bytes (slice_index bytes n == 46) _ _ (λ _. tt)
    (λ _. either bytes (nat_lt (number_of (take n bytes)) 9223372036854775808) _ _ (λ _. tt) (λ _. tt)))

string_by : (bytes : List ℕ) (found : Option ℕ) → NamesOf bytes (quoted 39 string_piece (drop 1 bytes) found)
string_by bytes None = tt
string_by bytes (Some n) =
    either bytes (nat_lt 65535 (length (undoubled 39 (take n (drop 1 bytes))))) _ _ (λ _. tt) (λ _. tt)

string_names : (bytes : List ℕ) → NamesOf bytes (front_string bytes)
unfolding front_string
string_names bytes = string_by bytes (inner_len 39 (drop 1 bytes))

operator_by : (bytes : List ℕ) (n : ℕ) (found : Option Operator) → NamesOf bytes (operator_piece n found)
operator_by bytes n None = tt
operator_by bytes n (Some operator) = tt

operator_names : (bytes : List ℕ) → NamesOf bytes (operator bytes)
unfolding operator
operator_names bytes =
    let n = operator_len (take (signs_len bytes) bytes) in
    operator_by bytes n (operator_of (take n bytes))

punctuation_names : (bytes : List ℕ) (b next : ℕ) → NamesOf bytes (punctuation b next)
punctuation_names bytes b next =
    either bytes (b == 40) _ _ (λ _. tt)
    (λ _. either bytes (b == 41) _ _ (λ _. tt) (λ _. either bytes (b == 44) _ _ (λ _. tt)
    (λ _. either bytes (b == 59) _ _ (λ _. tt)
    (λ _. either bytes (b == 46) _ _ (λ _. tt)
    (λ _. either bytes (b == 58 && next == 58) _ _ (λ _. tt) (λ _. tt))))))

front_names : (bytes : List ℕ) → (slice_index bytes 0 < 128 → IsUtf8 bytes) → NamesOf bytes (front bytes)
unfolding front
front_names bytes utf8 =
    let b = slice_index bytes 0 in
    either bytes (is_in_class class.Space b) _ _ (λ _. tt)
    (λ _. either bytes (begins_line_comment bytes) _ _ (λ _. comment_names bytes (line_comment (drop 2 bytes)))
    (λ _. either bytes (begins_block_comment bytes) _ _ (λ _. comment_names bytes (block_comment 0 (drop 2 bytes)))
    (λ _. either bytes (is_in_class class.Letter b) _ _ (λ e. word_names bytes e)
    (λ _. either bytes (is_in_class class.Digit b) _ _ (λ _. number_names bytes)
    (λ _. either bytes (b == 34) _ _
    (λ e. let first = eqb-true b 34 e in quoted_names bytes first (utf8 (omega (arith, first))))
    (λ _. either bytes (b == 39) _ _ (λ _. string_names bytes)
    (λ _. either bytes (is_in_class class.Sign b) _ _ (λ _. operator_names bytes)
    (λ _. punctuation_names bytes b (slice_index bytes 1)))))))))

-- ---- the tokens of a text

begun : (place : ℕ) (bytes : List ℕ) (piece : Piece) → NamesOf bytes piece → (go_on : ℕ → Lexed)
    → ((n : ℕ) → AreTokensPlain (go_on n)) → AreTokensPlain (begins piece place bytes go_on)
begun place bytes (Blank n) h go_on more = more (n - 1)
begun place bytes (Whole kind n) h go_on more = (h, more (n - 1))
begun place bytes (Faulty fault) h go_on more = tt

from_plain : (place skip : ℕ) (bytes : List ℕ) → AreTexts bytes → AreTokensPlain (tokens_from place skip bytes)
unfolding tokens_from
from_plain place skip [] texts = tt
from_plain place (suc skip) (b ∷ bytes) texts = from_plain (place + 1) skip bytes texts.1
from_plain place zero (b ∷ bytes) texts =
    begun place (b ∷ bytes) (front (b ∷ bytes)) (front_names (b ∷ bytes) texts.0)
    (λ n. tokens_from (place + 1) n bytes) (λ n. from_plain (place + 1) n bytes texts.1)

pub are_plain : (text : List ℕ) (place : ℕ) → IsUtf8 text → AreTokensPlain (at text place)
are_plain text place utf8 = from_plain place 0 (drop place text) (texts_from text (drop place text) place utf8 refl)

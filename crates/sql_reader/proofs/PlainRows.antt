-- A row that is read byte by byte is the row that its tokens spell.
use Rattle.std.proofs.Common.{◌≡◌, ℕ, suc, ◌+◌, ◌-◌, ◌*◌, ◌^◌, ◌<◌, ◌≤◌, Bool, true, false, ◌==◌, List, [], ◌∷◌, ◌++◌, length, get_or, take, drop, Ok, inl, inr, refl, sym, ap, ◌∙◌, arith, append_assoc, length-append, eqb-true}
use Rattle.std.specs.Prelude.{ℤ, pos, neg_ℤ, nat_lt, slice_index, codes, Contains}
use Rattle.std.specs.Char.{is_ascii_digit}
use Rattle.std.specs.List.{prefix_len}
use Rattle.std.proofs.lemmas.Bool.{lt-ltb}
use Rattle.std.proofs.lemmas.Bool.Decides.{nat_tests}
use Rattle.std.proofs.lemmas.List.{drop_all, drop_more, drop-drop, take_more, take-append-drop, get_or-drop, get_or-take}
use Rattle.std.proofs.lemmas.Slice.Eq.{starts_is}
use Rattle.std.proofs.lemmas.Bool.Decides.{Decides-eqb}
use Rattle.std.specs.Cmp.Lexicographic.{pointwise}
use Rattle.std.proofs.lemmas.List.Folds.{length-prefix_len}
use Rattle.std.proofs.lemmas.List.Sums.{prefix_len_passes}
use Rattle.filter_tree.specs.Datum.{Truth, Datum, Missing, Known}
use Rattle.filter_tree.specs.declared.value.Value.TheVariants as v
use Rattle.sql_tokens.specs.declared.kinds.Operator.TheVariants.{Minus}
use Rattle.sql_tokens.specs.declared.kinds.TokenKind.TheVariants as t
use Rattle.sql_tokens.specs.Doubled.{doubled, in_quotes}
use Rattle.sql_tokens.specs.Front.{front}
use Rattle.sql_tokens.specs.Numbers as n
use Rattle.sql_tokens.specs.Numbers.{number_from, number_of}
use Rattle.sql_tokens.specs.Operators.{operator}
use Rattle.sql_tokens.proofs.Fronts.{front-digit}
use Rattle.sql_tokens.proofs.Lexing.{at-token}
use Rattle.sql_tokens.proofs.SpelledTokens.{EndsValue, lexeme, space_passes, minus_len}
use Rattle.sql_reader.specs.declared.item.Item.TheVariants as i
use Rattle.sql_reader.specs.declared.plain_row.Digits.{Digits}
use Rattle.sql_reader.specs.Items.{Items, Then, seen_item, items, size}
use Rattle.sql_reader.specs.Numbers as r
use Rattle.sql_reader.specs.Numbers.{placed_number, signed_number}
use Rattle.sql_reader.specs.PlainRows.{is_end, is_plain, AreDigits, tokens_at, ReadsValue, IsPlain, IsWord}
use Rattle.sql_reader.specs.Reading.{is_ahead, rest_of}
use Rattle.sql_reader.specs.Rows.{number_value, value, one_value, values, row_of}
use Rattle.sql_reader.specs.Repetitions.{link, repeat}
use Rattle.sql_reader.proofs.SpelledRows.{ahead, closing, comma_ahead, null_again, true_again, false_again, string_again, one_more, comma_next, close_next, between_parentheses}
use Rattle.sql_reader.proofs.RepetitionLemmas.{link-goes_on, link-ends}
use Rattle.filter_tree.proofs.Tests.{by_test}

pub ends_is : (byte : ℕ) → is_end byte ≡ true → EndsValue byte
ends_is byte e = by_test (byte == 44) (λ comma. inl (eqb-true byte 44 comma))
    (λ other. inr (eqb-true byte 41 (rw other at e)))

-- the bytes from a place on, with the first one separate
at_byte : (text : List ℕ) (place byte : ℕ) → place < length text → slice_index text place ≡ byte
    → drop place text ≡ byte ∷ drop (place + 1) text
at_byte text place byte within e = drop_more text place 0 within ∙ ap (λ first. first ∷ drop (place + 1) text) e

-- ---- numbers

number_from-more : (n : ℕ) (digits : List ℕ) (digit : ℕ)
    → number_from n (digits ++ digit ∷ []) ≡ 10 * number_from n digits + (digit - 48)
unfolding number_from
number_from-more n [] digit = refl
number_from-more n (d ∷ digits) digit = number_from-more (10 * n + (d - 48)) digits digit

pub number_of-take_more : (bytes : List ℕ) (k : ℕ) → k < length bytes
    → number_of (take (k + 1) bytes) ≡ 10 * number_of (take k bytes) + (get_or bytes k 0 - 48)
number_of-take_more bytes k below =
    rw (take_more bytes k 0 below) (number_from-more 0 (take k bytes) (get_or bytes k 0))

pub ruleset digit_turns = number_of-take_more

first_digit : (bytes : List ℕ) (digits : Digits) → AreDigits bytes digits → is_ascii_digit (slice_index bytes 0) ≡ true
first_digit bytes digits are = prefix_len_passes is_ascii_digit bytes 0 0 (omega (arith, are.all, are.some))

-- the token of a number
number_at : (text : List ℕ) (place : ℕ) (digits : Digits) → AreDigits (drop place text) digits
    → place + digits.length < length text → EndsValue (slice_index text (place + digits.length))
    → tokens_at text place
    ≡ Then (seen_item (lexeme (t.Number digits.number) place (take digits.length (drop place text))))
    (tokens_at text (place + digits.length))
unfolding items n.front_number
number_at text place digits are within ends =
    let next : slice_index (drop place text) digits.length ≡ slice_index text (place + digits.length) =
    get_or-drop place text digits.length 0 in
    let fits : nat_lt digits.number (2 ^ 63) ≡ true = lt-ltb digits.number (2 ^ 63) are.small in
    ap items (at-token text place (t.Number digits.number) digits.length (omega (arith, are.some))
    (front-digit (drop place text) (first_digit (drop place text) digits are)
    ∙ rw (are.all, are.spell, next) (elim ends [ inl e ↦ rw (e, fits) refl | inr e ↦ rw (e, fits) refl ]))
    are.some (omega arith))

pub number_is_plain : (text : List ℕ) (place : ℕ) (digits : Digits) (number : ℤ) → number ≡ pos digits.number
    → AreDigits (drop place text) digits → place + digits.length < length text
    → is_end (slice_index text (place + digits.length)) ≡ true
    → IsPlain text place (record { value = v.Int number; after = place + digits.length })
unfolding value number_value signed_number placed_number r.number is_ahead
number_is_plain text place digits number e are within ends = record {
  takes = rw (e, number_at text place digits are within (ends_is _ ends))
      (record { reads = refl; fewer = omega arith });
  later = omega (arith, are.some);
  within = within;
  ends = ends;
}

-- ---- numbers with a minus

-- what begins with a minus before a digit begins as `-0` does
minus_front : (bytes : List ℕ) → is_ascii_digit (slice_index bytes 0) ≡ true → front (45 ∷ bytes) ≡ front (45 ∷ 48 ∷ [])
unfolding front operator
minus_front [] e = cc
minus_front (digit ∷ rest) e =
    let no_comment : digit == 45 ≡ false = grind (arith, nat_tests) in
    rw (no_comment, minus_len digit rest e, minus_len 48 [] refl) refl

minus_at : (text : List ℕ) (place : ℕ) (digits : Digits) → place < length text → slice_index text place ≡ 45
    → AreDigits (drop (place + 1) text) digits
    → tokens_at text place
    ≡ Then (seen_item (lexeme (t.Operator Minus) place (take 1 (drop place text)))) (tokens_at text (place + 1))
unfolding items front operator
minus_at text place digits within minus are =
    ap items (at-token text place (t.Operator Minus) 1 within
    (ap front (at_byte text place 45 within minus)
    ∙ minus_front (drop (place + 1) text) (first_digit (drop (place + 1) text) digits are)
    ∙ rw (minus_len 48 [] refl) refl)
    (omega arith) (omega arith))

pub negative_is_plain : (text : List ℕ) (place : ℕ) (digits : Digits) (number : ℤ)
    → number ≡ neg_ℤ (pos digits.number) → place < length text → slice_index text place ≡ 45
    → AreDigits (drop (place + 1) text) digits
    → place + 1 + digits.length < length text → is_end (slice_index text (place + 1 + digits.length)) ≡ true
    → IsPlain text place (record { value = v.Int number; after = place + 1 + digits.length })
unfolding value number_value signed_number placed_number r.number is_ahead
negative_is_plain text place digits number e here minus are within ends = record {
  takes = rw (
    e,
    minus_at text place digits here minus are,
    number_at text (place + 1) digits are within (ends_is _ ends),
  ) (record { reads = refl; fewer = omega arith });
  later = omega (arith, are.some);
  within = within;
  ends = ends;
}

-- ---- strings

abbrev plain_part : List ℕ → List ℕ
plain_part bytes = take (prefix_len is_plain bytes) bytes

plain_doubled : (bytes : List ℕ) → doubled 39 (plain_part bytes) ≡ plain_part bytes
plain_doubled [] = refl
plain_doubled (b ∷ bytes) =
    let more = plain_doubled bytes in
    let one : 1 + prefix_len is_plain bytes ≡ suc (prefix_len is_plain bytes) = omega arith in
    by_test (b == 39) (λ q. rw q refl) (λ q. by_test (b == 0) (λ z. rw (q, z) refl) (λ z. rw (q, z, one, q, more) refl))

plain_clean : (bytes : List ℕ) → ¬ Contains (plain_part bytes) 0
plain_clean bytes found =
    let below : found.0 < prefix_len is_plain bytes = omega (arith, found.1, length-prefix_len is_plain bytes) in
    let passes : is_plain (get_or bytes found.0 0) ≡ true = prefix_len_passes is_plain bytes found.0 0 below in
    let zero : get_or bytes found.0 0 ≡ 0 = sym (get_or-take (prefix_len is_plain bytes) bytes found.0 0 below)
    ∙ found.2 in
    let bad = rw zero at passes in
    cc

-- what the string at a place is, by the number of its bytes
abbrev inner : List ℕ → ℕ → ℕ → List ℕ
inner text place count = take count (drop (place + 1) text)

inner_doubled : (text : List ℕ) (place count : ℕ) → count ≡ prefix_len is_plain (drop (place + 1) text)
    → doubled 39 (inner text place count) ≡ inner text place count
inner_doubled text place count is = rw is (plain_doubled (drop (place + 1) text))

inner_clean : (text : List ℕ) (place count : ℕ) → count ≡ prefix_len is_plain (drop (place + 1) text)
    → ¬ Contains (inner text place count) 0
inner_clean text place count is = rw is (plain_clean (drop (place + 1) text))

inner_length : (text : List ℕ) (place count : ℕ) → count ≡ prefix_len is_plain (drop (place + 1) text)
    → length (inner text place count) ≡ count
inner_length text place count is = rw is (length-prefix_len is_plain (drop (place + 1) text))

-- the bytes from the string on
string_front : (text : List ℕ) (place count : ℕ) → count ≡ prefix_len is_plain (drop (place + 1) text)
    → slice_index text place ≡ 39 → slice_index text (place + 1 + count) ≡ 39
    → place + 1 + count + 1 < length text
    → drop place text ≡ in_quotes 39 (inner text place count) ++ drop (place + 1 + count + 1) text
string_front text place count is opens closes within =
    let after = drop (place + 1 + count + 1) text in
    let rest : drop count (drop (place + 1) text) ≡ 39 ∷ after = drop-drop count (place + 1) text
    ∙ at_byte text (place + 1 + count) 39 (omega arith) closes in
    let parts : drop (place + 1) text ≡ inner text place count ++ (39 ∷ after) =
    sym (take-append-drop count (drop (place + 1) text)) ∙ ap (λ bytes. inner text place count ++ bytes) rest in
    let joined : in_quotes 39 (inner text place count) ++ after ≡ 39 ∷ (inner text place count ++ (39 ∷ after)) =
    ap (λ bytes. 39 ∷ ((bytes ++ (39 ∷ [])) ++ after)) (inner_doubled text place count is)
    ∙ ap (λ bytes. 39 ∷ bytes) (append_assoc (inner text place count) (39 ∷ []) after) in
    at_byte text place 39 (omega arith) opens ∙ ap (λ bytes. 39 ∷ bytes) parts ∙ sym joined

pub string_is_plain : (text : List ℕ) (place count : ℕ) (bytes : List ℕ) → bytes ≡ inner text place count
    → count ≡ prefix_len is_plain (drop (place + 1) text) → count ≤ 65535
    → slice_index text place ≡ 39 → slice_index text (place + 1 + count) ≡ 39 → place + 1 + count + 1 < length text
    → is_end (slice_index text (place + 1 + count + 1)) ≡ true
    → IsPlain text place (record { value = v.Text bytes; after = place + 1 + count + 1 })
string_is_plain text place count bytes e is short opens closes within ends =
    let next = slice_index text (place + 1 + count + 1) in
    let rest = drop (place + 1 + count + 1 + 1) text in
    let tail : drop (place + 1 + count + 1) text ≡ next ∷ rest =
    at_byte text (place + 1 + count + 1) next within refl in
    let whole : drop place text ≡ in_quotes 39 (inner text place count) ++ (next ∷ rest) =
    string_front text place count is opens closes within
    ∙ ap (λ bytes. in_quotes 39 (inner text place count) ++ bytes) tail in
    let long : place + length (in_quotes 39 (inner text place count)) ≡ place + 1 + count + 1 =
    omega (
      arith,
      length-append (doubled 39 (inner text place count)) (39 ∷ []),
      ap length (inner_doubled text place count is),
      inner_length text place count is,
    ) in
    let after : tokens_at text (place + 1 + count + 1)
    ≡ ahead (place + length (in_quotes 39 (inner text place count))) (next ∷ rest) =
    ap (ahead (place + 1 + count + 1)) tail ∙ ap (λ p. ahead p (next ∷ rest)) (sym long) in
    let takes = string_again (inner text place count) place next rest
    (record {
      no_zero = inner_clean text place count is;
      short =
          omega (arith, inner_length text place count is);
    }) (ends_is next ends) in
    record {
      takes = rw (e, ap (ahead place) whole, after) takes;
      later = omega arith;
      within = within;
      ends = ends;
    }

-- ---- words

-- a word at the front of what is left, and a value that ends after it
pub word_at : (text : List ℕ) (place : ℕ) (word rest : List ℕ) (starts ends : Bool) → rest ≡ drop place text
    → starts ≡ pointwise (λ a b. a == b) word (take (length word) rest) → starts ≡ true
    → place + length word < length text → ends ≡ is_end (slice_index text (place + length word)) → ends ≡ true
    → IsWord text place word
word_at text place word rest starts ends e is starts_is_true within is_end_here ends_is_true =
    let found : rest ≡ word ++ drop (length word) rest = (starts_is Decides-eqb rest word starts is).0 starts_is_true in
    let later : drop (length word) rest ≡ drop (place + length word) text = ap (drop (length word)) e
    ∙ drop-drop (length word) place text in
    record {
      is = sym e ∙ found ∙ ap (λ bytes. word ++ bytes) later;
      within = within;
      ends = sym is_end_here ∙ ends_is_true;
    }

word_reads : (cell : Datum) (word : List ℕ)
    → ((place next : ℕ) (rest : List ℕ) → EndsValue next
    → ReadsValue cell (ahead place (word ++ (next ∷ rest))) (ahead (place + length word) (next ∷ rest)))
    → (text : List ℕ) (place : ℕ) → IsWord text place word
    → ReadsValue cell (tokens_at text place) (tokens_at text (place + length word))
word_reads cell word again text place is =
    let next = slice_index text (place + length word) in
    let rest = drop (place + length word + 1) text in
    let tail : drop (place + length word) text ≡ next ∷ rest = at_byte text (place + length word) next is.within refl in
    let whole : drop place text ≡ word ++ (next ∷ rest) = is.is ∙ ap (λ bytes. word ++ bytes) tail in
    rw (ap (ahead place) whole, ap (ahead (place + length word)) tail) (again place next rest (ends_is next is.ends))

pub null_is_plain : (text : List ℕ) (place : ℕ) → IsWord text place (codes "NULL")
    → IsPlain text place (record { value = v.Null; after = place + 4 })
null_is_plain text place is =
    record {
      takes = word_reads Missing (codes "NULL") null_again text place is;
      later = omega arith;
      within =
          is.within;
      ends = is.ends;
    }

pub true_is_plain : (text : List ℕ) (place : ℕ) → IsWord text place (codes "TRUE")
    → IsPlain text place (record { value = v.Bool true; after = place + 4 })
true_is_plain text place is =
    record {
      takes = word_reads (Known (Truth true)) (codes "TRUE") true_again text place is;
      later =
          omega arith;
      within = is.within;
      ends = is.ends;
    }

pub false_is_plain : (text : List ℕ) (place : ℕ) → IsWord text place (codes "FALSE")
    → IsPlain text place (record { value = v.Bool false; after = place + 5 })
false_is_plain text place is =
    record {
      takes = word_reads (Known (Truth false)) (codes "FALSE") false_again text place is;
      later =
          omega arith;
      within = is.within;
      ends = is.ends;
    }

-- ---- rows

-- the values before a place are read, and one more is required there
abbrev pub Wants : List ℕ → List Datum → ℕ → Type 0
Wants text cells place = (cell : Datum) (after : Items) → ReadsValue cell (tokens_at text place) after
    → values (tokens_at text 1) ≡ repeat (link i.Comma one_value) (cells ++ (cell ∷ [])) after

pub wants_first : (text : List ℕ) → Wants text [] 1
unfolding values
wants_first text = λ cell after takes. rw (one_more [] cell (tokens_at text 1) after takes) refl

pub wants_next : (text : List ℕ) (cells : List Datum) (cell : Datum) (place after next : ℕ) → Wants text cells place
    → ReadsValue cell (tokens_at text place) (tokens_at text after)
    → after < length text → slice_index text after ≡ 44 → tokens_at text next ≡ tokens_at text (after + 1)
    → Wants text (cells ++ (cell ∷ [])) next
wants_next text cells cell place after next wants takes within comma same = λ more later takes_more.
    let rest = drop (after + 1) text in
    let read = cells ++ (cell ∷ []) in
    let here : tokens_at text after ≡ ahead after (44 ∷ rest) = ap (ahead after) (at_byte text after 44 within comma) in
    let tokens : ahead after (44 ∷ rest) ≡ Then (seen_item (lexeme t.Comma after (44 ∷ []))) (tokens_at text next) =
    comma_ahead after rest ∙ ap (Then (seen_item (lexeme t.Comma after (44 ∷ [])))) (sym same) in
    let read_next : one_value read (rest_of (ahead after (44 ∷ rest))) ≡ Ok (read ++ (more ∷ []), later) =
    ap (λ ts. one_value read (rest_of ts)) tokens ∙ one_more read more (tokens_at text next) later takes_more in
    let fewer : size later < size (ahead after (44 ∷ rest)) = omega (arith, takes_more.fewer, ap size tokens) in
    wants cell (tokens_at text after) takes
    ∙ ap (repeat (link i.Comma one_value) read) here
    ∙ link-goes_on i.Comma one_value read (ahead after (44 ∷ rest)) (read ++ (more ∷ [])) later
    (comma_next after rest) read_next fewer

-- the parenthesis after a value closes the row
pub row_closes : (text : List ℕ) (cells : List Datum) (cell : Datum) (place after : ℕ) → Wants text cells place
    → ReadsValue cell (tokens_at text place) (tokens_at text after)
    → slice_index text 0 ≡ 40 → slice_index text after ≡ 41 → after < length text → length text ≤ after + 1
    → row_of text ≡ Ok (cells ++ (cell ∷ []))
row_closes text cells cell place after wants takes opens closes within last =
    let read = cells ++ (cell ∷ []) in
    let closed : drop after text ≡ 41 ∷ [] = at_byte text after 41 within closes
    ∙ ap (λ bytes. 41 ∷ bytes) (drop_all (after + 1) text last) in
    let here : tokens_at text after ≡ closing after = ap (ahead after) closed in
    let ends : values (tokens_at text 1) ≡ Ok (read, closing after) =
    wants cell (tokens_at text after) takes ∙ ap (repeat (link i.Comma one_value) read) here
    ∙ link-ends i.Comma one_value read (closing after) (close_next after) in
    let opened : text ≡ 40 ∷ drop 1 text = at_byte text 0 40 (omega arith) opens in
    ap row_of opened ∙ between_parentheses (drop 1 text) read after ends

-- a space is skipped
pub space_skipped : (text : List ℕ) (place : ℕ) → place < length text → slice_index text place ≡ 32
    → tokens_at text (place + 1) ≡ tokens_at text place
space_skipped text place within space =
    sym (ap (ahead place) (at_byte text place 32 within space)
    ∙ ap items (space_passes place (drop (place + 1) text)))

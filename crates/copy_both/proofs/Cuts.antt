-- A token ends with an ASCII character, so that the text may be cut after it.
use Rattle.std.proofs.Common.{◌≡◌, ℕ, zero, suc, ◌+◌, ◌-◌, ◌<◌, ◌≤◌, Bool, true, false, ◌==◌, if◌then◌else◌, List, [], ◌∷◌, length, get_or, take, drop, Option, Some, None, refl, sym, ◌∙◌, subst, arith, length-drop, get_or-drop, IsUtf8, eqb-true}
use Rattle.std.specs.Prelude.{slice_index}
use Rattle.std.specs.Char.{is_ascii_whitespace}
use Rattle.std.specs.List.{prefix_len}
use Rattle.std.specs.Str.{IsCharBoundary}
use Rattle.std.proofs.lemmas.Bool.Decides.{nat_tests}
use Rattle.std.proofs.lemmas.List.Folds.{length-prefix_len}
use Rattle.std.proofs.lemmas.List.Sums.{prefix_len_passes, prefix_len-le-length}
use Rattle.std.proofs.lemmas.Str.{IsCharBoundary-start, IsCharBoundary-after_ascii}
use Rattle.copy_both.specs.declared.quoted.QuotedText.{QuotedText}
use Rattle.copy_both.specs.CommandTokens.{longer, quoted, is_letter, is_word_byte, hexadecimal, place_piece, run, mark, front, name_piece, value_piece}
use Rattle.copy_both.specs.TokenPlaces.{EndsAscii, IsPiece}

pub cut_after : (text : List ℕ) (n : ℕ) → IsUtf8 text → EndsAscii text n → IsCharBoundary text n
cut_after text n utf8 ends =
    let there : n - 1 + 1 ≡ n = omega (arith, ends.some) in
    subst (IsCharBoundary text) there
    (IsCharBoundary-after_ascii text (n - 1) utf8 (omega (arith, ends.some, ends.within)) ends.last)

pub after_first : (text : List ℕ) → IsUtf8 text → 0 < length text → slice_index text 0 < 128 → IsCharBoundary text 1
after_first text utf8 some ascii = cut_after text 1 utf8 (record { some = omega arith; within = some; last = ascii })

word_byte_is_ascii : (b : ℕ) → is_word_byte b ≡ true → b < 128
word_byte_is_ascii b e = grind (arith, nat_tests)

run_ends_ascii : (text : List ℕ) → 0 < prefix_len is_word_byte text → EndsAscii text (prefix_len is_word_byte text)
run_ends_ascii text some = record {
  some = some;
  within = prefix_len-le-length is_word_byte text;
  last = word_byte_is_ascii _ (prefix_len_passes is_word_byte text (prefix_len is_word_byte text - 1) 0 (omega arith));
}

by_length : (n : ℕ) {P : Type 0} → (n ≡ 0 → P) → (0 < n → P) → P
by_length zero none some = none refl
by_length (suc n) none some = some (omega arith)

pub run_ends : (text : List ℕ) → IsUtf8 text → IsCharBoundary text (prefix_len is_word_byte text)
run_ends text utf8 =
    by_length (prefix_len is_word_byte text)
    (λ e. subst (IsCharBoundary text) (sym e) (IsCharBoundary-start text utf8))
    (λ some. cut_after text (prefix_len is_word_byte text) utf8 (run_ends_ascii text some))

-- ---- each piece

chosen : {X : Type 0} (b : Bool) (x y : X) (P : X → Type 0) → (b ≡ true → P x) → (b ≡ false → P y)
    → P (if b then x else y)
chosen true x y P holds fails = holds refl
chosen false x y P holds fails = fails refl

-- this number of bytes end with the quote
record EndsAt (quote : ℕ) (bytes : List ℕ) (n : ℕ) : Type 0 where
  some : 0 < n
  within : n ≤ length bytes
  last : get_or bytes (n - 1) 0 ≡ quote

abbrev QuoteEnds : ℕ → List ℕ → Option QuotedText → Type 0
QuoteEnds quote bytes None = Unit {0}
QuoteEnds quote bytes (Some found) = EndsAt quote bytes found.length

one_later : (quote b : ℕ) (bytes : List ℕ) (x : Option QuotedText) → QuoteEnds quote bytes x
    → QuoteEnds quote (b ∷ bytes) (longer 1 b x)
one_later quote b bytes None ends = tt
one_later quote b bytes (Some found) ends =
    let there : 1 + found.length - 1 ≡ suc (found.length - 1) = omega (arith, ends.some) in
    record { some = omega arith; within = omega (arith, ends.within); last = rw there ends.last }

two_later : (quote b c : ℕ) (bytes : List ℕ) (x : Option QuotedText) → QuoteEnds quote bytes x
    → QuoteEnds quote (b ∷ c ∷ bytes) (longer 2 quote x)
two_later quote b c bytes None ends = tt
two_later quote b c bytes (Some found) ends =
    let there : 2 + found.length - 1 ≡ suc (suc (found.length - 1)) = omega (arith, ends.some) in
    record { some = omega arith; within = omega (arith, ends.within); last = rw there ends.last }

at_quote : (quote b : ℕ) (bytes : List ℕ) → b == quote ≡ true → EndsAt quote (b ∷ bytes) 1
at_quote quote b bytes e = record { some = omega arith; within = omega arith; last = eqb-true b quote e }

quote_ends : (quote : ℕ) (bytes : List ℕ) → QuoteEnds quote bytes (quoted quote bytes)
unfolding quoted
quote_ends quote [] = tt
quote_ends quote (b ∷ []) = chosen (b == quote) _ _ (QuoteEnds quote (b ∷ [])) (λ e. at_quote quote b [] e) (λ e. tt)
quote_ends quote (b ∷ c ∷ bytes) =
    chosen (b == quote) _ _ (QuoteEnds quote (b ∷ c ∷ bytes))
    (λ e. chosen (c == quote) _ _ (QuoteEnds quote (b ∷ c ∷ bytes))
    (λ f. two_later quote b c bytes (quoted quote bytes) (quote_ends quote bytes))
    (λ f. at_quote quote b (c ∷ bytes) e))
    (λ e. one_later quote b (c ∷ bytes) (quoted quote (c ∷ bytes)) (quote_ends quote (c ∷ bytes)))

-- with the first quote
whole_quoted : (quote : ℕ) (text : List ℕ) (n : ℕ) → quote < 128 → EndsAt quote (drop 1 text) n → EndsAscii text (1 + n)
whole_quoted quote text n small ends =
    let there : 1 + n - 1 ≡ 1 + (n - 1) = omega (arith, ends.some) in
    let last : get_or text (1 + (n - 1)) 0 ≡ quote = sym (get_or-drop 1 text (n - 1) 0) ∙ ends.last in
    record {
      some = omega arith;
      within = omega (arith, ends.within, ends.some, length-drop 1 text);
      last =
          rw there (omega (arith, last));
    }

name_ends : (text : List ℕ) (x : Option QuotedText) → QuoteEnds 34 (drop 1 text) x → IsPiece text (name_piece x)
name_ends text None ends = tt
name_ends text (Some found) ends = whole_quoted 34 text found.length (omega arith) ends

value_ends : (text : List ℕ) (x : Option QuotedText) → QuoteEnds 39 (drop 1 text) x → IsPiece text (value_piece x)
value_ends text None ends = tt
value_ends text (Some found) ends = whole_quoted 39 text found.length (omega arith) ends

first_passes : (text : List ℕ) → 0 < length text → is_word_byte (slice_index text 0) ≡ true
    → 0 < prefix_len is_word_byte text
first_passes [] some e = absurd (omega arith)
first_passes (b ∷ text) some e = rw e (omega arith)

some_digits : (digits : List ℕ) (v : ℕ) → hexadecimal digits ≡ Some v → 0 < length digits
some_digits [] v e = absurd cc
some_digits (d ∷ digits) v e = omega arith

place_ends : (text : List ℕ) (n : ℕ) (high low : Option ℕ) → ((v : ℕ) → low ≡ Some v → EndsAscii text n)
    → IsPiece text (place_piece n high low)
place_ends text n (Some high) (Some low) ends = ends low refl
place_ends text n (Some high) None ends = tt
place_ends text n None low ends = tt

no_slash : (rest : List ℕ) → length rest ≡ 0 → slice_index rest 0 == 47 ≡ true → ⊥
no_slash [] none slash = cc
no_slash (b ∷ rest) none slash = absurd (omega arith)

-- digits, a slash and digits, these numbers of each
place_ends_ascii : (text : List ℕ) (n m k : ℕ) → k ≡ n + 1 + m → 0 < length (drop n text)
    → EndsAscii (drop 1 (drop n text)) m → EndsAscii text k
place_ends_ascii text n m k k_is slash low =
    let back : k - 1 ≡ n + (1 + (m - 1)) = omega (arith, low.some) in
    let last : get_or text (n + (1 + (m - 1))) 0 ≡ get_or (drop 1 (drop n text)) (m - 1) 0 =
    sym (get_or-drop 1 (drop n text) (m - 1) 0 ∙ get_or-drop n text (1 + (m - 1)) 0) in
    record {
      some = omega arith;
      within = omega (arith, low.within, low.some, length-drop 1 (drop n text), length-drop n text);
      last = rw (back, last) low.last;
    }

run_piece : (text : List ℕ) → 0 < length text → is_word_byte (slice_index text 0) ≡ true → IsPiece text (run text)
unfolding run
run_piece text some e =
    let n = prefix_len is_word_byte text in
    let rest = drop n text in
    let after = drop 1 rest in
    let m = prefix_len is_word_byte after in
    let n_is : length (take n text) ≡ n = length-prefix_len is_word_byte text in
    let m_is : length (take m after) ≡ m = length-prefix_len is_word_byte after in
    let n_some : 0 < n = first_passes text some e in
    chosen (slice_index rest 0 == 47) _ _ (IsPiece text)
    (λ slash. place_ends text (length (take n text) + 1 + length (take m after)) _ _ (λ v is.
    let m_some : 0 < m = omega (arith, some_digits (take m after) v is, m_is) in
    let low = run_ends_ascii after m_some in
    let slash_there : 0 < length rest =
    by_length (length rest) (λ none. absurd (no_slash rest none slash)) (λ more. more) in
    place_ends_ascii text n m (length (take n text) + 1 + length (take m after)) (omega (arith, n_is, m_is))
    slash_there low))
    (λ other. chosen (is_letter (slice_index (take n text) 0)) _ _ (IsPiece text)
    (λ letter. subst (EndsAscii text) (sym n_is) (run_ends_ascii text n_some))
    (λ other. tt))

mark_ends : (text : List ℕ) → 0 < length text → IsPiece text (mark (slice_index text 0))
mark_ends text some =
    let b = slice_index text 0 in
    let one : b < 128 → EndsAscii text 1 = λ small. record { some = omega arith; within = some; last = small } in
    chosen (b == 40) _ _ (IsPiece text) (λ e. one (omega (arith, eqb-true b 40 e)))
    (λ _. chosen (b == 41) _ _ (IsPiece text) (λ e. one (omega (arith, eqb-true b 41 e)))
    (λ _. chosen (b == 44) _ _ (IsPiece text) (λ e. one (omega (arith, eqb-true b 44 e)))
    (λ _. chosen (b == 59) _ _ (IsPiece text) (λ e. one (omega (arith, eqb-true b 59 e))) (λ _. tt))))

blank_is_ascii : (b : ℕ) → is_ascii_whitespace b ≡ true → b < 128
blank_is_ascii b e = grind (arith, nat_tests)

pub front_piece : (text : List ℕ) → 0 < length text → IsPiece text (front text)
unfolding front
front_piece text some =
    let b = slice_index text 0 in
    chosen (is_ascii_whitespace b) _ _ (IsPiece text)
    (λ e. record { some = omega arith; within = some; last = blank_is_ascii b e })
    (λ _. chosen (b == 34) _ _ (IsPiece text)
    (λ e. name_ends text (quoted 34 (drop 1 text)) (quote_ends 34 (drop 1 text)))
    (λ _. chosen (b == 39) _ _ (IsPiece text)
    (λ e. value_ends text (quoted 39 (drop 1 text)) (quote_ends 39 (drop 1 text)))
    (λ _. chosen (is_word_byte b) _ _ (IsPiece text) (λ e. run_piece text some e) (λ _. mark_ends text some))))

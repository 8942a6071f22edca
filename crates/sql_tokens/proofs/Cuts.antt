-- It is valid to cut a text at the ends of a token, and inside its quotes.
use Rattle.std.proofs.Common.{◌≡◌, ℕ, ◌+◌, ◌-◌, ◌<◌, ◌≤◌, List, length, get_or, take, drop, IsUtf8, sym, ap, ◌∙◌, subst, refl, arith, add-zero, get_or-drop, length-drop}
use Rattle.std.proofs.lemmas.List.{length-take-le, drop-take, drop-drop, take-take}
use Rattle.std.proofs.lemmas.Str.{IsCharBoundary-before_ascii, IsCharBoundary-after_ascii}
use Rattle.std.specs.Str.{IsCharBoundary}
use Rattle.sql_tokens.specs.declared.kinds.Token.{Token}
use Rattle.sql_tokens.specs.Pieces.{IsToken}
use Rattle.sql_tokens.specs.Left.{IsCut, IsBetweenQuotes}
use Rattle.sql_tokens.specs.Meant.{between_quotes}

-- the place of the last byte, counted from the first
last_place : (place n : ℕ) → 0 < n → (place + (n - 1) + 1 ≡ place + n) × (place + (n - 1) ≡ place + n - 1)
last_place place n some = (omega arith, omega arith)

get_or_at_drop : (text : List ℕ) (place : ℕ) → get_or (drop place text) 0 0 ≡ get_or text place 0
get_or_at_drop text place = rw (get_or-drop place text 0 0, add-zero) refl

quoted : (text : List ℕ) (token : Token) → IsUtf8 text → token.place + token.length ≤ length text
    → IsToken (drop token.place text) token.kind token.length → 2 ≤ token.length → IsBetweenQuotes text token
quoted text token utf8 within found two =
    let first : get_or text token.place 0 < 128 = rw (← get_or_at_drop text token.place) found.first in
    let last : get_or text (token.place + (token.length - 1)) 0 < 128 =
    rw (← get_or-drop token.place text (token.length - 1) 0) found.last in
    record {
      quotes = two;
      starts = IsCharBoundary-after_ascii text token.place utf8 (omega arith) first;
      ends = subst (IsCharBoundary text) (last_place token.place token.length found.some).1
          (IsCharBoundary-before_ascii text (token.place + (token.length - 1)) (omega (arith, found.some)) last);
    }

pub cut : (text : List ℕ) (token : Token) → IsUtf8 text → token.place + token.length ≤ length text
    → IsToken (drop token.place text) token.kind token.length → IsCut text token
cut text token utf8 within found =
    let first : get_or text token.place 0 < 128 = rw (← get_or_at_drop text token.place) found.first in
    let last : get_or text (token.place + (token.length - 1)) 0 < 128 =
    rw (← get_or-drop token.place text (token.length - 1) 0) found.last in
    record {
      some = found.some;
      within = within;
      starts = IsCharBoundary-before_ascii text token.place (omega (arith, found.some)) first;
      ends = subst (IsCharBoundary text) (last_place token.place token.length found.some).0
          (IsCharBoundary-after_ascii text (token.place + (token.length - 1)) utf8 (omega (arith, found.some)) last);
      quoted_name = λ e. quoted text token utf8 within found (rw e at found.quotes);
      string = λ e. quoted text token utf8 within found (rw e at found.quotes);
      number = found.number;
    }

-- What is between the quotes of a token is the text between its ends, without one byte on each side. A reader of the
-- tokens cuts there.
pub between_quotes-cut : (text : List ℕ) (place n : ℕ) → 2 ≤ n → place + n ≤ length text
    → between_quotes (take n (drop place text)) ≡ take (place + n - 1 - (place + 1)) (drop (place + 1) text)
between_quotes-cut text place n two within =
    let long : n ≤ length (drop place text) = omega (arith, length-drop place text) in
    let all : length (take n (drop place text)) ≡ n = length-take-le n (drop place text) long in
    let n_is : 1 + (n - 1) ≡ n = omega arith in
    let inner : drop 1 (take n (drop place text)) ≡ take (n - 1) (drop (place + 1) text) =
    ap (λ k. drop 1 (take k (drop place text))) (sym n_is) ∙ drop-take 1 (n - 1) (drop place text)
    ∙ ap (take (n - 1)) (drop-drop 1 place text) in
    let less : place + n - 1 - (place + 1) ≡ n - 2 = omega arith in
    rw (all, inner, less) (take-take (n - 2) (n - 1) (drop (place + 1) text) (omega arith))

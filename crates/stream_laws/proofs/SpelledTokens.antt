-- The tokens that are read from a text are those that it spells.
use Rattle.std.proofs.Common.{◌≡◌, ℕ, zero, suc, ◌-◌, ◌<◌, true, List, [], ◌∷◌, ◌++◌, drop, Option, Some, None, refl, sym, ap, ◌∙◌, subst, arith, append-nil}
use Rattle.std.specs.Char.{is_ascii_whitespace}
use Rattle.std.specs.List.{list_all}
use Rattle.std.specs.Option.{option_map}
use Rattle.std.proofs.lemmas.Bool.{and_parts}
use Rattle.std.proofs.lemmas.List.{drop_at}
use Rattle.copy_both.specs.declared.token.Token.{Token}
use Rattle.copy_both.specs.declared.token.Piece.{Piece}
use Rattle.copy_both.specs.declared.token.Piece.TheVariants.{Blank, Whole, Bad}
use Rattle.copy_both.specs.CommandTokens.{front, begins, tokens_from}
use Rattle.stream_laws.specs.CommandSpelling.{Spells, TokensAreSpelled}
use Rattle.stream_laws.proofs.CommandPieces.{written_token}
use Rattle.stream_laws.proofs.ReadPieces.{IsAtFront, IsThere, front_there}
use Rattle.stream_laws.proofs.WrittenPieces.{written_some}

-- ---- from what is written to what is read

blank_read : (b : ℕ) (rest : List ℕ) → is_ascii_whitespace b ≡ true → tokens_from 0 (b ∷ rest) ≡ tokens_from 0 rest
unfolding tokens_from front
blank_read b rest e = rw e refl

blanks_read : (blanks rest : List ℕ) → list_all is_ascii_whitespace blanks ≡ true
    → tokens_from 0 (blanks ++ rest) ≡ tokens_from 0 rest
blanks_read [] rest all = refl
blanks_read (b ∷ blanks) rest all =
    let both = and_parts (is_ascii_whitespace b) (list_all is_ascii_whitespace blanks) all in
    blank_read b (blanks ++ rest) both.0 ∙ blanks_read blanks rest both.1

no_tokens : tokens_from 0 [] ≡ Some []
unfolding tokens_from
no_tokens = refl

spelled_read : (text : List ℕ) (tokens : List Token) → Spells text tokens → tokens_from 0 text ≡ Some tokens
spelled_read text [] blank =
    ap (tokens_from 0) (sym (append-nil text)) ∙ blanks_read text [] blank ∙ no_tokens
spelled_read text (token ∷ tokens) is =
    ap (tokens_from 0) is.whole
    ∙ blanks_read is.blanks (is.bytes ++ is.rest) is.blank
    ∙ written_token token is.bytes is.rest tokens is.written is.ends (spelled_read is.rest tokens is.more)

-- ---- from what is read to what is written

blank_before : (b : ℕ) (bytes : List ℕ) (tokens : List Token) → is_ascii_whitespace b ≡ true → Spells bytes tokens
    → Spells (b ∷ bytes) tokens
blank_before b bytes [] e is = rw (e, is) refl
blank_before b bytes (token ∷ tokens) e is = record {
  blanks = b ∷ is.blanks;
  bytes = is.bytes;
  rest = is.rest;
  whole = ap (λ more. b ∷ more) is.whole;
  blank = rw (e, is.blank) refl;
  written = is.written;
  ends = is.ends;
  more = is.more;
}

-- what is left after the bytes of a token
left_over : (token : Token) (n b : ℕ) (bytes : List ℕ) (is : IsAtFront token n (b ∷ bytes))
    → drop (n - 1) bytes ≡ is.rest
left_over token n b bytes is =
    let some : 0 < n = omega (arith, written_some token is.bytes is.written, is.long) in
    let next : suc (n - 1) ≡ n = omega (arith, some) in
    ap (λ k. drop k (b ∷ bytes)) next ∙ ap (drop n) is.whole ∙ drop_at is.bytes is.rest n is.long

token_before : (token : Token) (n b : ℕ) (bytes : List ℕ) (tokens : List Token) → IsAtFront token n (b ∷ bytes)
    → Spells (drop (n - 1) bytes) tokens
    → Spells (b ∷ bytes) (token ∷ tokens)
token_before token n b bytes tokens is more = record {
  blanks = [];
  bytes = is.bytes;
  rest = is.rest;
  whole = is.whole;
  blank = refl;
  written = is.written;
  ends = is.ends;
  more = subst (λ left. Spells left tokens) (left_over token n b bytes is) more;
}

some_is : {X : Type 0} (x y : X) → Some x ≡ Some y → x ≡ y
some_is x y e = cc

-- the tokens after the first one, if there is one
record IsFirst (token : Token) (tokens : List Token) (x : Option (List Token)) : Type 0 where
  others : List Token
  first : token ∷ others ≡ tokens
  later : x ≡ Some others

first_is : (token : Token) (tokens : List Token) (x : Option (List Token))
    → option_map (λ more. token ∷ more) x ≡ Some tokens → IsFirst token tokens x
first_is token tokens None e = absurd cc
first_is token tokens (Some others) e = record { others = others; first = cc; later = refl }

begun_spelled : (b : ℕ) (bytes : List ℕ) (tokens : List Token) (piece : Piece) (go_on : ℕ → Option (List Token))
    → IsThere (b ∷ bytes) piece → begins piece go_on ≡ Some tokens
    → ((n : ℕ) (more : List Token) → go_on n ≡ Some more → Spells (drop n bytes) more)
    → Spells (b ∷ bytes) tokens
begun_spelled b bytes tokens Blank go_on is e later = blank_before b bytes tokens is (later 0 tokens e)
begun_spelled b bytes tokens (Whole token n) go_on is e later =
    let found = first_is token tokens (go_on (n - 1)) e in
    subst (λ all. Spells (b ∷ bytes) all) found.first
    (token_before token n b bytes found.others is (later (n - 1) found.others found.later))
begun_spelled b bytes tokens Bad go_on is e later = absurd cc

read_spelled : (skip : ℕ) (bytes : List ℕ) (tokens : List Token) → tokens_from skip bytes ≡ Some tokens
    → Spells (drop skip bytes) tokens
unfolding tokens_from
read_spelled zero [] tokens e = subst (λ all. Spells [] all) (some_is [] tokens e) refl
read_spelled (suc skip) [] tokens e = subst (λ all. Spells [] all) (some_is [] tokens e) refl
read_spelled (suc skip) (b ∷ bytes) tokens e = read_spelled skip bytes tokens e
read_spelled zero (b ∷ bytes) tokens e =
    begun_spelled b bytes tokens (front (b ∷ bytes)) (λ n. tokens_from n bytes) (front_there b bytes) e
    (λ n more is. read_spelled n bytes more is)

-- ---- the law

pub tokens_are_spelled : TokensAreSpelled
tokens_are_spelled text tokens = (read_spelled 0 text tokens, spelled_read text tokens)

-- The tokens of a text, one after another.
use Rattle.std.proofs.Common.{◌≡◌, ℕ, zero, suc, ◌-◌, ◌<◌, ◌≤◌, List, [], ◌∷◌, ◌++◌, length, drop, Option, Some, None, refl, sym, ap, ◌∙◌, arith, append_assoc}
use Rattle.std.specs.Option.{option_map}
use Rattle.copy_both.specs.declared.token.Token.{Token}
use Rattle.copy_both.specs.declared.token.Piece.TheVariants.{Blank, Whole, Bad}
use Rattle.copy_both.specs.CommandTokens.{front, tokens_from}

-- these tokens come first
abbrev pub after_tokens : List Token → Option (List Token) → Option (List Token)
after_tokens tokens = option_map (λ more. tokens ++ more)

pub skipped : (n : ℕ) (bytes : List ℕ) → n ≤ length bytes → tokens_from n bytes ≡ tokens_from 0 (drop n bytes)
unfolding tokens_from
skipped zero bytes within = refl
skipped (suc n) [] within = absurd (omega arith)
skipped (suc n) (b ∷ bytes) within = skipped n bytes (omega arith)

pub at_end : (rest : List ℕ) → length rest ≡ 0 → tokens_from 0 rest ≡ Some []
unfolding tokens_from
at_end [] e = refl
at_end (b ∷ rest) e = absurd (omega arith)

pub at_blank : (rest : List ℕ) → 0 < length rest → front rest ≡ Blank → tokens_from 0 rest ≡ tokens_from 0 (drop 1 rest)
unfolding tokens_from
at_blank [] some e = absurd (omega arith)
at_blank (b ∷ rest) some e = rw e refl

pub at_bad : (rest : List ℕ) → 0 < length rest → front rest ≡ Bad → tokens_from 0 rest ≡ None
unfolding tokens_from
at_bad [] some e = absurd (omega arith)
at_bad (b ∷ rest) some e = rw e refl

at_token : (rest : List ℕ) (token : Token) (n : ℕ) → 0 < n → n ≤ length rest → front rest ≡ Whole token n
    → tokens_from 0 rest ≡ option_map (λ tokens. token ∷ tokens) (tokens_from 0 (drop n rest))
unfolding tokens_from
at_token [] token n some within e = absurd (omega arith)
at_token (b ∷ rest) token zero some within e = absurd (omega arith)
at_token (b ∷ rest) token (suc n) some within e =
    let back : suc n - 1 ≡ n = omega arith in
    rw e (rw back (ap (option_map (λ tokens. token ∷ tokens)) (skipped n rest (omega arith))))

token_later : (tokens : List Token) (token : Token) (more : Option (List Token))
    → after_tokens tokens (option_map (λ tokens. token ∷ tokens) more) ≡ after_tokens (tokens ++ token ∷ []) more
token_later tokens token None = refl
token_later tokens token (Some more) = ap Some (sym (append_assoc tokens (token ∷ []) more))

pub one_more : (tokens : List Token) (rest : List ℕ) (token : Token) (n : ℕ) → 0 < n → n ≤ length rest
    → front rest ≡ Whole token n
    → after_tokens tokens (tokens_from 0 rest) ≡ after_tokens (tokens ++ token ∷ []) (tokens_from 0 (drop n rest))
one_more tokens rest token n some within e = ap (after_tokens tokens) (at_token rest token n some within e)
    ∙ token_later tokens token (tokens_from 0 (drop n rest))

-- A quoted text read from quote to quote.
use Rattle.std.proofs.Common.{◌≡◌, ◌≢◌, ℕ, suc, ◌+◌, ◌-◌, ◌<◌, ◌≤◌, true, false, ◌==◌, List, [], ◌∷◌, ◌++◌, length, get_or, drop, Option, Some, None, refl, sym, ap, ◌∙◌, arith, append_assoc, length-append, length-drop, zero-add, append-nil}
use Rattle.std.proofs.lemmas.Bool.Decides.{nat_tests}
use Rattle.copy_both.specs.declared.quoted.QuotedText.{QuotedText}
use Rattle.copy_both.specs.CommandTokens.{longer, quoted}

-- what was read comes first, and has this number of bytes
abbrev pub after_read : List ℕ → ℕ → Option QuotedText → Option QuotedText
after_read read n None = None
after_read read n (Some found) = Some (record { meant = read ++ found.meant; length = n + found.length })

abbrev found_as : List ℕ → ℕ → Option QuotedText
found_as meant n = Some (record { meant = meant; length = n })

-- no byte is the quote
abbrev pub Lacks : ℕ → List ℕ → Type 0
Lacks quote bytes = (i : ℕ) → i < length bytes → get_or bytes i 0 ≢ quote

first_lacks : (quote b : ℕ) (bytes : List ℕ) → Lacks quote (b ∷ bytes) → b == quote ≡ false
first_lacks quote b bytes lacks = let ne : b ≢ quote = lacks 0 (omega arith) in grind (arith, nat_tests)

later_lacks : (quote b : ℕ) (bytes : List ℕ) → Lacks quote (b ∷ bytes) → Lacks quote bytes
later_lacks quote b bytes lacks i less = lacks (suc i) (omega arith)

same : (n : ℕ) → n == n ≡ true
same n = grind (arith, nat_tests)

nothing_read : (x : Option QuotedText) → after_read [] 0 x ≡ x
nothing_read None = refl
nothing_read (Some found) = ap (found_as found.meant) (zero-add found.length)

one_more : (b : ℕ) (read : List ℕ) (n : ℕ) (x : Option QuotedText)
    → longer 1 b (after_read read n x) ≡ after_read (b ∷ read) (suc n) x
one_more b read n None = refl
one_more b read n (Some found) = ap (found_as (b ∷ (read ++ found.meant))) (omega arith)

both_read : (xs ys : List ℕ) (m n : ℕ) (x : Option QuotedText)
    → after_read xs m (after_read ys n x) ≡ after_read (xs ++ ys) (m + n) x
both_read xs ys m n None = refl
both_read xs ys m n (Some found) =
    ap (λ meant. found_as meant (m + (n + found.length))) (sym (append_assoc xs ys found.meant))
    ∙ ap (found_as (xs ++ ys ++ found.meant)) (omega arith)

quote_read : (quote : ℕ) (x : Option QuotedText) → longer 2 quote x ≡ after_read (quote ∷ []) 2 x
quote_read quote None = refl
quote_read quote (Some found) = refl

pub no_quote : (quote b : ℕ) (tail : List ℕ) → b == quote ≡ false → 0 < length tail
    → quoted quote (b ∷ tail) ≡ longer 1 b (quoted quote tail)
unfolding quoted
no_quote quote b [] e some = absurd (omega arith)
no_quote quote b (c ∷ tail) e some = rw e refl

-- up to a quote
to_quote : (quote : ℕ) (part after : List ℕ) → Lacks quote part
    → quoted quote (part ++ (quote ∷ after)) ≡ after_read part (length part) (quoted quote (quote ∷ after))
to_quote quote [] after lacks = sym (nothing_read (quoted quote (quote ∷ after)))
to_quote quote (b ∷ part) after lacks =
    let some : 0 < length (part ++ (quote ∷ after)) = omega (arith, length-append part (quote ∷ after)) in
    no_quote quote b (part ++ (quote ∷ after)) (first_lacks quote b part lacks) some
    ∙ ap (longer 1 b) (to_quote quote part after (later_lacks quote b part lacks))
    ∙ one_more b part (length part) (quoted quote (quote ∷ after))

pub no_quote_left : (quote : ℕ) (bytes : List ℕ) → Lacks quote bytes → quoted quote bytes ≡ None
unfolding quoted
no_quote_left quote [] lacks = refl
no_quote_left quote (b ∷ []) lacks = rw (first_lacks quote b [] lacks) refl
no_quote_left quote (b ∷ c ∷ bytes) lacks =
    rw (
      first_lacks quote b (c ∷ bytes) lacks,
      no_quote_left quote (c ∷ bytes) (later_lacks quote b (c ∷ bytes) lacks),
    ) refl

last_quote : (quote : ℕ) (after : List ℕ) → get_or after 0 0 ≢ quote → quoted quote (quote ∷ after) ≡ found_as [] 1
unfolding quoted
last_quote quote [] other = rw (same quote) refl
last_quote quote (c ∷ after) other = let e : c == quote ≡ false = grind (arith, nat_tests) in rw (same quote, e) refl

two_quotes : (quote : ℕ) (after : List ℕ) → 0 < quote → get_or after 0 0 ≡ quote
    → quoted quote (quote ∷ after) ≡ longer 2 quote (quoted quote (drop 1 after))
unfolding quoted
two_quotes quote [] some again = absurd (omega arith)
two_quotes quote (c ∷ after) some again = rw (same quote, again, same quote) refl

-- a part up to a quote that closes
pub closes : (quote : ℕ) (part after meant : List ℕ) (n : ℕ) → Lacks quote part → get_or after 0 0 ≢ quote
    → after_read meant n (quoted quote (part ++ (quote ∷ after))) ≡ found_as (meant ++ part) (n + length part + 1)
closes quote part after meant n lacks other =
    ap (after_read meant n) (to_quote quote part after lacks)
    ∙ both_read meant part n (length part) (quoted quote (quote ∷ after))
    ∙ ap (after_read (meant ++ part) (n + length part)) (last_quote quote after other)
    ∙ ap (λ text. found_as text (n + length part + 1)) (append-nil (meant ++ part))

-- a part up to two quotes
pub goes_on : (quote : ℕ) (part after meant : List ℕ) (n : ℕ) → 0 < quote → Lacks quote part → get_or after 0 0 ≡ quote
    → after_read meant n (quoted quote (part ++ (quote ∷ after)))
    ≡ after_read (meant ++ part ++ (quote ∷ [])) (n + length part + 2) (quoted quote (drop 1 after))
goes_on quote part after meant n some lacks again =
    ap (after_read meant n) (to_quote quote part after lacks)
    ∙ both_read meant part n (length part) (quoted quote (quote ∷ after))
    ∙ ap (after_read (meant ++ part) (n + length part))
    (two_quotes quote after some again ∙ quote_read quote (quoted quote (drop 1 after)))
    ∙ both_read (meant ++ part) (quote ∷ []) (n + length part) 2 (quoted quote (drop 1 after))

-- ---- the loop

nonempty : (bytes : List ℕ) (b : ℕ) → 0 < b → get_or bytes 0 0 ≡ b → 0 < length bytes
nonempty [] b some e = absurd (omega arith)
nonempty (c ∷ bytes) b some e = omega arith

lengths : (text rest part after : List ℕ) (quote : ℕ) → length rest ≤ length text → rest ≡ part ++ (quote ∷ after)
    → (length text - length rest + length part + 1 ≡ length text - length after) × (length after < length rest)
lengths text rest part after quote fewer e =
    let whole : length rest ≡ length part + suc (length after) = ap length e ∙ length-append part (quote ∷ after) in
    (omega arith, omega arith)

pub text_closes : (quote : ℕ) (text rest part after meant result : List ℕ)
    → after_read meant (length text - length rest) (quoted quote rest) ≡ quoted quote text → length rest ≤ length text
    → rest ≡ part ++ (quote ∷ after) → Lacks quote part → get_or after 0 0 ≢ quote → result ≡ meant ++ part
    → found_as result (length text - length after) ≡ quoted quote text
text_closes quote text rest part after meant result so_far fewer e lacks other is =
    ap (λ read. found_as read (length text - length after)) is
    ∙ ap (found_as (meant ++ part)) (sym (lengths text rest part after quote fewer e).0)
    ∙ sym (closes quote part after meant (length text - length rest) lacks other)
    ∙ ap (λ left. after_read meant (length text - length rest) (quoted quote left)) (sym e)
    ∙ so_far

pub text_goes_on : (quote : ℕ) (text rest part after left meant result : List ℕ)
    → after_read meant (length text - length rest) (quoted quote rest) ≡ quoted quote text → length rest ≤ length text
    → rest ≡ part ++ (quote ∷ after) → Lacks quote part → 0 < quote → get_or after 0 0 ≡ quote → left ≡ drop 1 after
    → result ≡ meant ++ part ++ (quote ∷ [])
    → (after_read result (length text - length left) (quoted quote left) ≡ quoted quote text)
    × (length left ≤ length text)
text_goes_on quote text rest part after left meant result so_far fewer e lacks some again left_is is =
    let shorter = (lengths text rest part after quote fewer e).1 in
    let one : length left ≡ length after - 1 = ap length left_is ∙ length-drop 1 after in
    let some_after : 0 < length after = nonempty after quote some again in
    let n : length text - length rest + length part + 2 ≡ length text - length left =
    omega (arith, (lengths text rest part after quote fewer e).0) in (
      ap (λ read. after_read read (length text - length left) (quoted quote left)) is
          ∙ ap (λ rest. after_read (meant ++ part ++ (quote ∷ [])) (length text - length left) (quoted quote rest))
          left_is
          ∙ ap (λ k. after_read (meant ++ part ++ (quote ∷ [])) k (quoted quote (drop 1 after))) (sym n)
          ∙ sym (goes_on quote part after meant (length text - length rest) some lacks again)
          ∙ ap (λ left. after_read meant (length text - length rest) (quoted quote left)) (sym e)
          ∙ so_far,
      omega arith,
    )

pub text_ends : (quote : ℕ) (text rest meant : List ℕ) (n : ℕ)
    → after_read meant n (quoted quote rest) ≡ quoted quote text → Lacks quote rest → None ≡ quoted quote text
text_ends quote text rest meant n so_far lacks = ap (after_read meant n) (sym (no_quote_left quote rest lacks)) ∙ so_far

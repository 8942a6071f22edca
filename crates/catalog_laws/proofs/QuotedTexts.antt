-- A text between quotes is determined, whatever follows its closing quote.
use Rattle.std.proofs.Common.{◌≡◌, ℕ, Bool, true, false, ◌==◌, if◌then◌else◌, List, [], ◌∷◌, ◌++◌, refl, sym, ap, ◌∙◌, append_assoc}
use Rattle.std.proofs.lemmas.Bool.{eqb-true, eqb-false}
use Rattle.sql_tokens.specs.Doubled.{quoted_byte, doubled, in_quotes}

-- two values are the same, and so is what follows them
abbrev pub Same : {A : Type 0} → A → A → List ℕ → List ℕ → Type 0
Same one other x y = (one ≡ other) × (x ≡ y)

-- the bytes do not begin with a quote
abbrev pub Ends : ℕ → List ℕ → Type 0
Ends quote [] = Unit {0}
Ends quote (byte ∷ bytes) = byte == quote ≡ false

pub head_is : {A : Type 0} (a b : A) (x y : List A) → a ∷ x ≡ b ∷ y → a ≡ b
head_is a b x y e = cc

pub tail_is : {A : Type 0} (a b : A) (x y : List A) → a ∷ x ≡ b ∷ y → x ≡ y
tail_is a b x y e = cc

-- a byte of a text, as it is written if this is the test of it for a quote
abbrev written : ℕ → ℕ → Bool → List ℕ
written quote byte is = if is then quote ∷ quote ∷ [] else byte ∷ []

not_quote : (quote byte : ℕ) → byte == quote ≡ false → quote ≡ byte → ⊥
not_quote quote byte apart same = eqb-false byte quote apart (sym same)

ends_not : (quote : ℕ) (r z : List ℕ) → Ends quote r → r ≡ quote ∷ z → ⊥
ends_not quote [] z ends e = absurd cc
ends_not quote (byte ∷ r) z ends e = eqb-false byte quote ends (head_is byte quote r z e)

-- one text has ended, and the other one has another byte
text_ended : (quote byte : ℕ) (is : Bool) (r z : List ℕ) → byte == quote ≡ is → Ends quote r
    → quote ∷ r ≡ written quote byte is ++ z → ⊥
text_ended quote byte true r z test ends e = ends_not quote r z ends (tail_is quote quote r (quote ∷ z) e)
text_ended quote byte false r z test ends e = not_quote quote byte test (head_is quote byte r z e)

byte_apart : (quote a b : ℕ) (is_a is_b : Bool) (x y : List ℕ) → a == quote ≡ is_a → b == quote ≡ is_b
    → written quote a is_a ++ x ≡ written quote b is_b ++ y → Same a b x y
byte_apart quote a b true true x y p q e = (
  eqb-true a quote p ∙ sym (eqb-true b quote q),
  tail_is quote quote x y (tail_is quote quote (quote ∷ x) (quote ∷ y) e),
)
byte_apart quote a b true false x y p q e = absurd (not_quote quote b q (head_is quote b (quote ∷ x) y e))
byte_apart quote a b false true x y p q e = absurd (not_quote quote a p (sym (head_is a quote x (quote ∷ y) e)))
byte_apart quote a b false false x y p q e = (head_is a b x y e, tail_is a b x y e)

more : (quote a : ℕ) (text z : List ℕ)
    → doubled quote (a ∷ text) ++ z ≡ written quote a (a == quote) ++ (doubled quote text ++ z)
more quote a text z = append_assoc (quoted_byte quote a) (doubled quote text) z

pub apart : (quote : ℕ) (one other r s : List ℕ) → Ends quote r → Ends quote s
    → doubled quote one ++ quote ∷ r ≡ doubled quote other ++ quote ∷ s → Same one other r s
apart quote [] [] r s p q e = (refl, tail_is quote quote r s e)
apart quote [] (b ∷ other) r s p q e =
    absurd (text_ended quote b (b == quote) r (doubled quote other ++ quote ∷ s) refl p
    (e ∙ more quote b other (quote ∷ s)))
apart quote (a ∷ one) [] r s p q e =
    absurd (text_ended quote a (a == quote) s (doubled quote one ++ quote ∷ r) refl q
    (sym e ∙ more quote a one (quote ∷ r)))
apart quote (a ∷ one) (b ∷ other) r s p q e =
    let first = byte_apart quote a b (a == quote) (b == quote) (doubled quote one ++ quote ∷ r)
    (doubled quote other ++ quote ∷ s) refl refl
    (sym (more quote a one (quote ∷ r)) ∙ e ∙ more quote b other (quote ∷ s)) in
    let later = apart quote one other r s p q first.1 in
    (ap (λ (byte : ℕ). byte ∷ one) first.0 ∙ ap (λ (text : List ℕ). b ∷ text) later.0, later.1)

-- the same for the text with both of its quotes
pub quoted_apart : (quote : ℕ) (one other x y : List ℕ) → Ends quote x → Ends quote y
    → in_quotes quote one ++ x ≡ in_quotes quote other ++ y → Same one other x y
quoted_apart quote one other x y p q e =
    apart quote one other x y p q (sym (append_assoc (doubled quote one) (quote ∷ []) x)
    ∙ tail_is quote quote ((doubled quote one ++ quote ∷ []) ++ x) ((doubled quote other ++ quote ∷ []) ++ y) e
    ∙ append_assoc (doubled quote other) (quote ∷ []) y)

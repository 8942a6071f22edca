-- A constant is determined by its text, and so is a list of constants.
use Rattle.std.proofs.Common.{◌≡◌, ℕ, Bool, true, false, ◌==◌, if◌then◌else◌, pos, negsuc, List, [], ◌∷◌, ◌++◌, refl, sym, ap, subst, ◌∙◌, arith}
use Rattle.std.specs.Prelude.{codes}
use Rattle.std.specs.Char.{is_ascii_digit}
use Rattle.std.specs.List.{join_by}
use Rattle.std.proofs.lemmas.Bool.{eqb-false}
use Rattle.std.proofs.lemmas.Bool.Decides.{nat_tests}
use Rattle.std.proofs.lemmas.List.{append_cancel_left}
use Rattle.filter_tree.specs.Datum.{Constant, Number, Truth, Bytes}
use Rattle.catalog_text.specs.FilterText.{number_text, truth_text, constant_text}
use Rattle.catalog_laws.proofs.Followers.{IsEnded, first_byte, bytes_differ}
use Rattle.catalog_laws.proofs.NumberTexts.{first_digit, numbers_apart}
use Rattle.catalog_laws.proofs.QuotedTexts.{Same, tail_is, quoted_apart}
use Rattle.catalog_laws.proofs.UniqueTexts.{Any, joined_tells}

-- ---- truth values

pub truths_apart : (one other : Bool) (x y : List ℕ) → truth_text one ++ x ≡ truth_text other ++ y → Same one other x y
truths_apart true true x y e = (refl, append_cancel_left (codes "TRUE") x y e)
truths_apart false false x y e = (refl, append_cancel_left (codes "FALSE") x y e)
truths_apart true false x y e = absurd (bytes_differ 84 70 (codes "RUE" ++ x) (codes "ALSE" ++ y) refl e)
truths_apart false true x y e = absurd (bytes_differ 70 84 (codes "ALSE" ++ x) (codes "RUE" ++ y) refl e)

-- ---- constants

-- what a constant is, from the first byte of its text; 3 for a parenthesis
abbrev kind_at : ℕ → ℕ
kind_at byte =
    if byte == 39 then 2 else (if byte == 84 then 1 else (if byte == 70 then 1 else (if byte == 41 then 3 else 0)))

abbrev kind_of : Constant → ℕ
kind_of (Number number) = 0
kind_of (Truth truth) = 1
kind_of (Bytes bytes) = 2

digit_kind : (byte : ℕ) → is_ascii_digit byte ≡ true → kind_at byte ≡ 0
digit_kind byte is = grind (arith, nat_tests)

number_kind : (n : ℕ) (x : List ℕ) → kind_at (first_byte (number_text (pos n) ++ x)) ≡ 0
number_kind n x =
    let first = first_digit n in
    ap (λ (text : List ℕ). kind_at (first_byte (text ++ x))) first.2 ∙ digit_kind first.0 first.3

constant_kind : (constant : Constant) (x : List ℕ)
    → kind_at (first_byte (constant_text constant ++ x)) ≡ kind_of constant
constant_kind (Number (pos n)) x = number_kind n x
constant_kind (Number (negsuc n)) x = refl
constant_kind (Truth true) x = refl
constant_kind (Truth false) x = refl
constant_kind (Bytes bytes) x = refl

by_kind : (one other : Constant) (x y : List ℕ) → kind_of one ≡ kind_of other → IsEnded x → IsEnded y
    → constant_text one ++ x ≡ constant_text other ++ y → Same one other x y
by_kind (Number n) (Number m) x y same f g e =
    let found = numbers_apart n m x y f.digit g.digit e in (ap Number found.0, found.1)
by_kind (Truth truth) (Truth other) x y same f g e =
    let found = truths_apart truth other x y e in (ap Truth found.0, found.1)
by_kind (Bytes bytes) (Bytes other) x y same f g e =
    let found = quoted_apart 39 bytes other x y f.single g.single e in (ap Bytes found.0, found.1)
by_kind one other x y same f g e = absurd (omega (arith, same))

pub constants_apart : (one other : Constant) (x y : List ℕ) → IsEnded x → IsEnded y
    → constant_text one ++ x ≡ constant_text other ++ y → Same one other x y
constants_apart one other x y f g e =
    by_kind one other x y
    (sym (constant_kind one x) ∙ ap (λ (text : List ℕ). kind_at (first_byte text)) e ∙ constant_kind other y) f g e

-- ---- lists of constants, before a parenthesis

abbrev IsClosed : List ℕ → Type 0
IsClosed x = first_byte x ≡ 41

closed_ended : (x : List ℕ) → IsClosed x → IsEnded x
closed_ended [] closed = absurd (omega (arith, closed))
closed_ended (byte ∷ x) closed =
    subst (λ (b : ℕ). IsEnded (b ∷ x)) (sym closed) (record { digit = refl; single = refl; double = refl })

no_constant : (constant : Constant) (x z : List ℕ) → IsClosed x → x ≡ constant_text constant ++ z → ⊥
no_constant constant x z closed e =
    no_kind constant (sym (constant_kind constant z) ∙ ap (λ (text : List ℕ). kind_at (first_byte text)) (sym e)
    ∙ ap kind_at closed)
  where
    no_kind : (constant : Constant) → kind_of constant ≡ 3 → ⊥
    no_kind (Number n) is = omega (arith, is)
    no_kind (Truth truth) is = omega (arith, is)
    no_kind (Bytes bytes) is = omega (arith, is)

pub lists_apart : (one other : List Constant) (x y : List ℕ)
    → join_by constant_text (codes ", ") one ++ (41 ∷ x) ≡ join_by constant_text (codes ", ") other ++ (41 ∷ y)
    → Same one other x y
lists_apart one other x y e =
    let found = joined_tells Any constant_text IsEnded IsClosed
    (λ a b v w p q f g same. constants_apart a b v w f g same)
    (λ z. record { digit = refl; single = refl; double = refl }) closed_ended
    (λ a v z p closed same. no_constant a z v closed (sym same))
    (λ a v z p closed same. eqb-false 41 44 refl (sym closed ∙ ap first_byte (sym same)))
    one other (41 ∷ x) (41 ∷ y) (λ n d within. tt) (λ n d within. tt) refl refl e in
    (found.0, tail_is 41 41 x y found.1)

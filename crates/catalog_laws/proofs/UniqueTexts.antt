-- Texts that tell what they are of, whatever follows them. Bytes are written as numbers: 34 is a double quote, 41 a
-- closing parenthesis, 44 a comma, 59 a semicolon, and 65 and the numbers after it are capital letters.
use Rattle.std.proofs.Common.{◌≡◌, ℕ, Bool, true, false, ◌==◌, List, [], ◌∷◌, ◌++◌, All, get_or, sym, ap, subst, ◌∙◌, append_assoc}
use Rattle.std.specs.Prelude.{codes}
use Rattle.std.specs.List.{flat_map, join_by}
use Rattle.std.proofs.lemmas.Bool.{both_ways}
use Rattle.std.proofs.lemmas.List.{append_cancel_left}
use Rattle.std.proofs.lemmas.List.Elements.{recursion_from_All}
use Rattle.catalog_laws.proofs.JoinedTexts.{later_apart, joined_apart}
use Rattle.catalog_laws.proofs.QuotedTexts.{Same}

-- Texts of such values that are equal, each with what follows it, are of the same value, and the same follows them.
abbrev pub Tells : {A : Type 0} → (A → Type 0) → (A → List ℕ) → (List ℕ → Type 0) → Type 0
Tells {A} IsSuch text Follows =
    (one other : A) (x y : List ℕ) → IsSuch one → IsSuch other → Follows x → Follows y
    → text one ++ x ≡ text other ++ y → Same one other x y

abbrev pub Any : {A : Type 0} → A → Type 0
Any a = Unit {0}

abbrev pub Starts : List ℕ → List ℕ → Type 0
Starts word text = (rest : List ℕ) × (text ≡ word ++ rest)

-- ---- texts that differ at a place

abbrev pub has_byte : ℕ → ℕ → List ℕ → Bool
has_byte place byte text = get_or text place 0 == byte

pub differ : (place byte : ℕ) (one other : List ℕ) → has_byte place byte one ≡ true → has_byte place byte other ≡ false
    → one ≡ other → ⊥
differ place byte one other p q e = both_ways (has_byte place byte one) (ap (has_byte place byte) e ∙ q) p

-- a function that reads the value off its text
pub by_reading : {A : Type 0} (IsSuch : A → Type 0) (text : A → List ℕ) (Follows : List ℕ → Type 0) (read : List ℕ → A)
    → ((a : A) (x : List ℕ) → IsSuch a → Follows x → read (text a ++ x) ≡ a) → Tells IsSuch text Follows
by_reading IsSuch text Follows read reads one other x y p q f g e =
    let same : one ≡ other = sym (reads one x p f) ∙ ap read e ∙ reads other y q g in
    (same, append_cancel_left (text other) x y (subst (λ a. text a ++ x ≡ text other ++ y) same e))

-- ---- one text after another

pub same_cons : {A : Type 0} (a b : A) (as' bs : List A) → a ≡ b → as' ≡ bs → a ∷ as' ≡ b ∷ bs
same_cons a b as' bs e f = cc

pub grouped : (a b x c d y : List ℕ) → (a ++ b) ++ x ≡ (c ++ d) ++ y → a ++ (b ++ x) ≡ c ++ (d ++ y)
grouped a b x c d y e = sym (append_assoc a b x) ∙ e ∙ append_assoc c d y

pub word_off : (word a x b y : List ℕ) → (word ++ a) ++ x ≡ (word ++ b) ++ y → a ++ x ≡ b ++ y
word_off word a x b y e = append_cancel_left word (a ++ x) (b ++ y) (grouped word a x word b y e)

-- the same word comes first
pub after_word : {A : Type 0} (IsSuch : A → Type 0) (text : A → List ℕ) (Follows : List ℕ → Type 0) (word : List ℕ)
    → Tells IsSuch text Follows → Tells IsSuch (λ a. word ++ text a) Follows
after_word IsSuch text Follows word tells one other x y p q f g e =
    tells one other x y p q f g
    (append_cancel_left word _ _ (grouped word (text one) x word (text other) y e))

-- texts one after another, until something else comes
pub list_tells : {A : Type 0} (IsSuch : A → Type 0) (text : A → List ℕ) (Follows End : List ℕ → Type 0)
    → Tells IsSuch text Follows → ((a : A) (x : List ℕ) → Follows (text a ++ x))
    → ((x : List ℕ) → End x → Follows x) → ((a : A) (x y : List ℕ) → IsSuch a → End y → text a ++ x ≡ y → ⊥)
    → Tells (All IsSuch) (flat_map text) End
list_tells {A} IsSuch text Follows End tells next last ends one other x y p q f g e =
    let stops : (a : A) (z rest : List ℕ) → IsSuch a → End z → z ≡ text a ++ rest → ⊥ =
    λ a z rest h close same. ends a rest z h close (sym same) in
    later_apart IsSuch IsSuch text [] Follows End tells next last stops stops one other x y
    (recursion_from_All IsSuch one p) (recursion_from_All IsSuch other q) f g e

-- a list with commas, after which neither an item nor a comma and an item comes
pub joined_tells : {A : Type 0} (IsSuch : A → Type 0) (text : A → List ℕ) (Follows End : List ℕ → Type 0)
    → Tells IsSuch text Follows → ((x : List ℕ) → Follows (codes ", " ++ x)) → ((x : List ℕ) → End x → Follows x)
    → ((a : A) (x y : List ℕ) → IsSuch a → End y → text a ++ x ≡ y → ⊥)
    → ((a : A) (x y : List ℕ) → IsSuch a → End y → codes ", " ++ (text a ++ x) ≡ y → ⊥)
    → Tells (All IsSuch) (join_by text (codes ", ")) End
joined_tells {A} IsSuch text Follows End tells next last none ends one other x y p q f g e =
    let stops : (a : A) (z rest : List ℕ) → IsSuch a → End z → z ≡ codes ", " ++ (text a ++ rest) → ⊥ =
    λ a z rest h close same. ends a rest z h close (sym same) in
    joined_apart IsSuch IsSuch text (codes ", ") Follows End tells (λ a z. next (text a ++ z)) last stops stops
    one other x y (λ a rest h same. none a rest y h g (sym same)) (λ a rest h same. none a rest x h f (sym same))
    (recursion_from_All IsSuch one p) (recursion_from_All IsSuch other q) f g e

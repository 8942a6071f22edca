-- Names tell what they are names of, if no two have the same name.
use Rattle.std.proofs.Common.{◌≡◌, ℕ, ◌<◌, ◌==◌, Bool, true, false, List, [], ◌∷◌, ◌++◌, All, length, get_or, map, refl, sym, ap, subst, ◌∙◌, inl, inr, arith}
use Rattle.std.specs.Prelude.{slice_get, codes}
use Rattle.std.specs.List.{IsDistinct, join_by}
use Rattle.std.specs.Str.{bytes_eq}
use Rattle.std.proofs.lemmas.Bool.{both_ways, cases_order}
use Rattle.std.proofs.lemmas.List.{length-map, append_cancel_left, get_or-map}
use Rattle.std.proofs.lemmas.Map.Keys.{apart_from_distinct}
use Rattle.std.proofs.lemmas.Option.{slice_get-get_or}
use Rattle.std.proofs.lemmas.Slice.Eq.{bytes_eq-Decides}
use Rattle.catalog_text.specs.FilterText.{text_by, name_text}
use Rattle.catalog_laws.proofs.QuotedTexts.{Ends, quoted_apart}
use Rattle.catalog_laws.proofs.UniqueTexts.{Tells, Any, Starts, has_byte, differ, grouped, joined_tells}

pub same_text : (text : List ℕ) → bytes_eq text text ≡ true
same_text text = (bytes_eq-Decides text text).1 refl

-- ---- places of a list whose keys differ

pub same_place : {K : Type 0} (test : K → K → Bool) (own : (k : K) → test k k ≡ true) (keys : List K) (d : K) (i j : ℕ)
    → IsDistinct test keys → i < length keys → j < length keys → get_or keys i d ≡ get_or keys j d → i ≡ j
same_place test own keys d i j distinct low high e = elim (cases_order i j) [
  | inl same ↦ same
  | inr (inl less) ↦
      absurd (both_ways _ (apart_from_distinct test keys i j d distinct less high)
      (subst (λ k. test (get_or keys i d) k ≡ true) e (own (get_or keys i d))))
  | inr (inr more) ↦
      absurd (both_ways _ (apart_from_distinct test keys j i d distinct more low)
      (subst (λ k. test (get_or keys j d) k ≡ true) (sym e) (own (get_or keys j d))))
]

-- the text of what stands at a place tells its key
module _ {A K : Type 0} (text : A → List ℕ) (key : A → K) (Follows : List ℕ → Type 0) (test : K → K → Bool)
    (own : (k : K) → test k k ≡ true)
    (tells : (one other : A) (x y : List ℕ) → Follows x → Follows y → text one ++ x ≡ text other ++ y
    → (key one ≡ key other) × (x ≡ y)) where
  at_place : (items : List A) (d : A) (n : ℕ) → n < length items
      → text_by text (slice_get items n) ≡ text (get_or items n d)
  at_place items d n low = ap (text_by text) (slice_get-get_or items n d low)

  places_by : (items : List A) (d : A) → IsDistinct test (map key items)
      → (i j : ℕ) (x y : List ℕ) → i < length items → j < length items → Follows x → Follows y
      → text (get_or items i d) ++ x ≡ text (get_or items j d) ++ y → (i ≡ j) × (x ≡ y)
  places_by items d distinct i j x y p q f g e =
      let found = tells (get_or items i d) (get_or items j d) x y f g e in (
        same_place test own (map key items) (key d) i j distinct (subst (λ n. i < n) (sym (length-map items key)) p)
            (subst (λ n. j < n) (sym (length-map items key)) q)
            (get_or-map key items i d (key d) p ∙ found.0 ∙ sym (get_or-map key items j d (key d) q)),
        found.1,
      )

  pub place_tells : (items : List A) → IsDistinct test (map key items)
      → Tells (λ n. n < length items) (λ n. text_by text (slice_get items n)) Follows
  place_tells [] distinct i j x y p q f g e = absurd (omega (arith, p))
  place_tells (item ∷ items) distinct i j x y p q f g e =
      places_by (item ∷ items) item distinct i j x y p q f g
      (ap (λ (t : List ℕ). t ++ x) (sym (at_place (item ∷ items) item i p)) ∙ e
      ∙ ap (λ (t : List ℕ). t ++ y) (at_place (item ∷ items) item j q))

  pub place_begins : (byte : ℕ) → ((a : A) (x : List ℕ) → has_byte 0 byte (text a ++ x) ≡ true)
      → (items : List A) (n : ℕ) (x : List ℕ) → n < length items
      → has_byte 0 byte (text_by text (slice_get items n) ++ x) ≡ true
  place_begins byte begins [] n x low = absurd (omega (arith, low))
  place_begins byte begins (item ∷ items) n x low =
      ap (λ (t : List ℕ). has_byte 0 byte (t ++ x)) (at_place (item ∷ items) item n low)
      ∙ begins (get_or (item ∷ items) n item) x

-- ---- names

pub name_tells : Tells Any name_text (Ends 34)
name_tells one other x y p q f g e = quoted_apart 34 one other x y f g e

-- a name in a schema
abbrev pub relation_text : List ℕ × List ℕ → List ℕ
relation_text relation = name_text relation.0 ++ (codes "." ++ name_text relation.1)

pub relation_tells : Tells Any relation_text (Ends 34)
relation_tells one other x y p q f g e =
    let schema = name_tells one.0 other.0 (codes "." ++ name_text one.1 ++ x) (codes "." ++ name_text other.1 ++ y)
    tt tt refl refl (grouped (name_text one.0) (codes "." ++ name_text one.1) x (name_text other.0)
    (codes "." ++ name_text other.1) y e) in
    let name = name_tells one.1 other.1 x y tt tt f g (append_cancel_left (codes ".") _ _ schema.1) in
    ((λ i. (schema.0 i, name.0 i)), name.1)

-- ---- lists of things by their names

module _ {A : Type 0} (name : A → List ℕ) (items : List A) (own : IsDistinct bytes_eq (map name items)) where
  abbrev pub name_at : ℕ → List ℕ
  name_at n = text_by (λ (a : A). name_text (name a)) (slice_get items n)

  pub name_at_tells : Tells (λ n. n < length items) name_at (Ends 34)
  name_at_tells =
      place_tells (λ (a : A). name_text (name a)) name (Ends 34) bytes_eq same_text
      (λ one other x y f g e. name_tells (name one) (name other) x y tt tt f g e) items own

  name_at_begins : (n : ℕ) (x : List ℕ) → n < length items → has_byte 0 34 (name_at n ++ x) ≡ true
  name_at_begins =
      place_begins (λ (a : A). name_text (name a)) name (Ends 34) bytes_eq same_text
      (λ one other x y f g e. name_tells (name one) (name other) x y tt tt f g e) 34 (λ a x. refl) items

  -- which end with a byte of another kind
  pub names_tell : (byte : ℕ) → (byte == 34) ≡ false → (byte == 44) ≡ false
      → Tells (All (λ n. n < length items)) (join_by name_at (codes ", ")) (Starts (byte ∷ []))
  names_tell byte no_quote no_comma =
      joined_tells (λ n. n < length items) name_at (Ends 34) (Starts (byte ∷ [])) name_at_tells (λ x. refl)
      (λ x f. subst (Ends 34) (sym f.1) no_quote)
      (λ n x y low f e. differ 0 34 (name_at n ++ x) y (name_at_begins n x low)
      (ap (has_byte 0 34) f.1 ∙ no_quote) e)
      (λ n x y low f e. differ 0 44 (codes ", " ++ (name_at n ++ x)) y refl (ap (has_byte 0 44) f.1 ∙ no_comma) e)

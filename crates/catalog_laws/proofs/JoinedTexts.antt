-- A list whose items are written with a separator between them is determined, if each item is.
use Rattle.std.proofs.Common.{◌≡◌, ℕ, List, [], ◌∷◌, ◌++◌, refl, sym, ap, subst, ◌∙◌, append_assoc}
use Rattle.std.specs.List.{flat_map, join_by, AllByRecursion}
use Rattle.std.proofs.lemmas.List.{append_cancel_left}
use Rattle.catalog_laws.proofs.QuotedTexts.{Same}

-- P and Q are what is known of the items of the two lists. `Follows` says what may come after an item. `Closes` says
-- what may come after the list.
module _ {A : Type 0} (P Q : A → Type 0) (text : A → List ℕ) (separator : List ℕ) (Follows Closes : List ℕ → Type 0)
    (item_apart : (one other : A) (x y : List ℕ) → P one → Q other → Follows x → Follows y
    → text one ++ x ≡ text other ++ y → Same one other x y)
    (separated : (item : A) (z : List ℕ) → Follows (separator ++ (text item ++ z)))
    (closed : (x : List ℕ) → Closes x → Follows x)
    (stops_one : (item : A) (x z : List ℕ) → P item → Closes x → x ≡ separator ++ (text item ++ z) → ⊥)
    (stops_other : (item : A) (x z : List ℕ) → Q item → Closes x → x ≡ separator ++ (text item ++ z) → ⊥)
  where
    -- the items after the first one
    abbrev later : List A → List ℕ
    later items = flat_map (λ item. separator ++ text item) items

    later_text : (item : A) (items : List A) (x : List ℕ)
        → later (item ∷ items) ++ x ≡ separator ++ (text item ++ (later items ++ x))
    later_text item items x =
        append_assoc (separator ++ text item) (later items) x ∙ append_assoc separator (text item) (later items ++ x)

    follows_later : (items : List A) (x : List ℕ) → Closes x → Follows (later items ++ x)
    follows_later [] x closes = closed x closes
    follows_later (item ∷ items) x closes =
        subst Follows (sym (later_text item items x)) (separated item (later items ++ x))

    pub later_apart : (one other : List A) (x y : List ℕ) → AllByRecursion P one → AllByRecursion Q other → Closes x
        → Closes y → later one ++ x ≡ later other ++ y → Same one other x y
    later_apart [] [] x y p q f g e = (refl, e)
    later_apart [] (b ∷ other) x y p q f g e =
        absurd (stops_other b x (later other ++ y) q.0 f (e ∙ later_text b other y))
    later_apart (a ∷ one) [] x y p q f g e =
        absurd (stops_one a y (later one ++ x) p.0 g (sym e ∙ later_text a one x))
    later_apart (a ∷ one) (b ∷ other) x y p q f g e =
        let same = append_cancel_left separator (text a ++ (later one ++ x)) (text b ++ (later other ++ y))
        (sym (later_text a one x) ∙ e ∙ later_text b other y) in
        let first = item_apart a b (later one ++ x) (later other ++ y) p.0 q.0 (follows_later one x f)
        (follows_later other y g) same in
        let rest = later_apart one other x y p.1 q.1 f g first.1 in
        (ap (λ (item : A). item ∷ one) first.0 ∙ ap (λ (items : List A). b ∷ items) rest.0, rest.1)

    -- lists with a first item
    pub some_apart : (a b : A) (one other : List A) (x y : List ℕ) → P a → AllByRecursion P one → Q b
        → AllByRecursion Q other → Closes x → Closes y
        → join_by text separator (a ∷ one) ++ x ≡ join_by text separator (b ∷ other) ++ y
        → Same (a ∷ one) (b ∷ other) x y
    some_apart a b one other x y pa p qb q f g e =
        let first = item_apart a b (later one ++ x) (later other ++ y) pa qb (follows_later one x f)
        (follows_later other y g)
        (sym (append_assoc (text a) (later one) x) ∙ e ∙ append_assoc (text b) (later other) y) in
        let rest = later_apart one other x y p q f g first.1 in
        (ap (λ (item : A). item ∷ one) first.0 ∙ ap (λ (items : List A). b ∷ items) rest.0, rest.1)

    -- any lists: what comes after a list does not begin like an item
    pub joined_apart : (one other : List A) (x y : List ℕ)
        → ((a : A) (z : List ℕ) → P a → y ≡ text a ++ z → ⊥) → ((b : A) (z : List ℕ) → Q b → x ≡ text b ++ z → ⊥)
        → AllByRecursion P one → AllByRecursion Q other → Closes x → Closes y
        → join_by text separator one ++ x ≡ join_by text separator other ++ y → Same one other x y
    joined_apart [] [] x y ends_one ends_other p q f g e = (refl, e)
    joined_apart [] (b ∷ other) x y ends_one ends_other p q f g e =
        absurd (ends_other b (later other ++ y) q.0 (e ∙ append_assoc (text b) (later other) y))
    joined_apart (a ∷ one) [] x y ends_one ends_other p q f g e =
        absurd (ends_one a (later one ++ x) p.0 (sym e ∙ append_assoc (text a) (later one) x))
    joined_apart (a ∷ one) (b ∷ other) x y ends_one ends_other p q f g e =
        some_apart a b one other x y p.0 p.1 q.0 q.1 f g e

-- How a constant is put into its place in an ordered list, and how such a list is made of the constants that are read.
use Rattle.std.proofs.Common.{◌≡◌, ℕ, ◌+◌, ◌<◌, List, [], ◌∷◌, ◌++◌, length, get_or, take, drop, map, refl, sym, ap, ◌∙◌}
use Rattle.std.specs.Prelude.{fold, Ok, Err}
use Rattle.std.specs.List.{insert}
use Rattle.std.specs.Ordering.{match_ordering}
use Rattle.std.specs.declared.cmp.Ordering.{Ordering}
use Rattle.std.specs.declared.cmp.Ordering.TheVariants.{Less, Equal}
use Rattle.std.proofs.lemmas.List.{map-append, take-append-drop, drop_more, take-map, drop-map}
use Rattle.filter_tree.specs.Datum.{Constant}
use Rattle.sql_reader.specs.Ascending.{constant_cmp, inserted_in_order, ascending}
use Rattle.sql_reader.specs.Operands.{verdict_map}
use Rattle.sql_reader.specs.Reading.{Verdict}

module _ {X : Type 0} (v : X → Constant) (xs : List X) (k : Constant) where
  -- the constants before this index come before the constant that is put into its place
  abbrev pub Passed : ℕ → Type 0
  Passed index = inserted_in_order (map v xs) k ≡ map v (take index xs) ++ inserted_in_order (map v (drop index xs)) k

  module _ (index : ℕ) (x : X) (within : index < length xs) (is : x ≡ get_or xs index x) where
    here : drop index xs ≡ x ∷ drop (index + 1) xs
    here = drop_more xs index x within ∙ ap (λ y. y ∷ drop (index + 1) xs) (sym is)

    at : (order : Ordering) → constant_cmp k (v x) ≡ order → Passed index →
        inserted_in_order (map v xs) k ≡ map v (take index xs)
        ++ match_ordering order (k ∷ map v (drop index xs)) (map v (drop index xs))
        (v x ∷ inserted_in_order (map v (drop (index + 1) xs)) k)
    at order e passed =
        passed
        ∙ ap (λ rest. map v (take index xs) ++ inserted_in_order (map v rest) k) here
        ∙ ap (λ o. map v (take index xs)
        ++ match_ordering o (k ∷ v x ∷ map v (drop (index + 1) xs)) (v x ∷ map v (drop (index + 1) xs))
        (v x ∷ inserted_in_order (map v (drop (index + 1) xs)) k)) e
        ∙ ap (λ rest. map v (take index xs)
        ++ match_ordering order (k ∷ map v rest) (map v rest) (v x ∷ inserted_in_order (map v (drop (index + 1) xs)) k))
        (sym here)

    pub passed_less : constant_cmp k (v x) ≡ Less → Passed index
        → inserted_in_order (map v xs) k ≡ insert (map v xs) index k
    passed_less e passed =
        at Less e passed
        ∙ ap (λ front. front ++ k ∷ map v (drop index xs)) (sym (take-map v index xs))
        ∙ ap (λ rest. take index (map v xs) ++ k ∷ rest) (sym (drop-map v index xs))

    pub passed_equal : constant_cmp k (v x) ≡ Equal → Passed index → inserted_in_order (map v xs) k ≡ map v xs
    passed_equal e passed = at Equal e passed ∙ sym (map-append v (take index xs) (drop index xs))
        ∙ ap (map v) (take-append-drop index xs)

pub map_insert : {X Y : Type 0} (v : X → Y) (xs : List X) (index : ℕ) (x : X)
    → map v (insert xs index x) ≡ insert (map v xs) index (v x)
map_insert v xs index x =
    map-append v (take index xs) (x ∷ drop index xs)
    ∙ ap (λ front. front ++ v x ∷ map v (drop index xs)) (sym (take-map v index xs))
    ∙ ap (λ rest. take index (map v xs) ++ v x ∷ rest) (sym (drop-map v index xs))

-- a list begins with its first literal
pub first_placed : (constant : Constant) (rest : Verdict (List Constant)) →
    verdict_map (fold inserted_in_order (constant ∷ [])) rest
    ≡ verdict_map (λ constants. ascending (constant ∷ constants)) rest
unfolding ascending
first_placed constant (Ok constants) = refl
first_placed constant (Err fault) = refl

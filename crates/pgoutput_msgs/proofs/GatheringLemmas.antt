-- Columns and cells that are gathered one after the other, each with a text.
use Rattle.std.proofs.Common.{◌≡◌, ℕ, ◌+◌, ◌<◌, ◌≤◌, List, [], ◌∷◌, ◌++◌, length, get_or, drop, sym, ap, subst, ◌∙◌, append_assoc, append-nil}
use Rattle.std.specs.Prelude.{All}
use Rattle.std.proofs.lemmas.List.{at_drop_more, at_drop_all}
use Rattle.std.proofs.lemmas.List.Elements.{All-nil, All-push}

-- what was gathered and what is left make up the whole, and this holds of each that was gathered
pub record Gathers {A B : Type 0} (P : B → Type 0) (make : ℕ → List A → List B) (all : List A) (made : List B)
    (number : ℕ) : Type 0 where
  pub list : made ++ make number (drop number all) ≡ make 0 all
  pub each : All P made

pub gathers_on : {A B : Type 0} (P : B → Type 0) (make : ℕ → List A → List B) (all : List A) (made later : List B)
    (number : ℕ) (a : A) (new : B)
    → a ≡ get_or all number a → number < length all
    → make number (a ∷ drop (number + 1) all) ≡ new ∷ make (number + 1) (drop (number + 1) all)
    → later ≡ made ++ new ∷ [] → P new → Gathers P make all made number → Gathers P make all later (number + 1)
gathers_on {A} {B} P make all made later number a new is within first grown one so_far =
    let rest = make (number + 1) (drop (number + 1) all) in
    record {
      list = ap (λ (x : List B). x ++ rest) grown ∙ append_assoc made (new ∷ []) rest
          ∙ ap (λ (x : List B). made ++ x) (sym first)
          ∙ ap (λ (x : A). made ++ make number (x ∷ drop (number + 1) all)) is
          ∙ ap (λ (x : List B). made ++ x) (sym (at_drop_more (make number) all number a within)) ∙ so_far.list;
      each = subst (All P) (sym grown) (All-push P made new so_far.each one);
    }

pub all_gathered : {A B : Type 0} (P : B → Type 0) (make : ℕ → List A → List B) (all : List A) (made : List B)
    (number : ℕ) → length all ≤ number → make number [] ≡ [] → Gathers P make all made number
    → made ≡ make 0 all
all_gathered {A} {B} P make all made number over none so_far =
    sym (append-nil made) ∙ ap (λ (x : List B). made ++ x) (sym (at_drop_all (make number) all number over ∙ none))
    ∙ so_far.list

pub none_gathered : {A B : Type 0} (P : B → Type 0) (make : ℕ → List A → List B) (all : List A) (made : List B)
    → made ≡ [] → Gathers P make all made 0
none_gathered {A} {B} P make all made none = record {
  list = ap (λ (x : List B). x ++ make 0 all) none;
  each = subst (All P) (sym none) (All-nil P);
}

-- The sets of truth values of steps follow from the sets of their parts, and are those of the filters that the steps
-- are.
use Rattle.std.proofs.Common.{◌≡◌, ℕ, zero, suc, ◌+◌, ◌<◌, List, [], ◌∷◌, ◌++◌, length, refl, sym, ap, subst, ◌∙◌, arith}
use Rattle.std.specs.Prelude.{Some, slice_get}
use Rattle.std.specs.Option.{option_map}
use Rattle.std.proofs.lemmas.Option.{slice_get-map, get_or_from_slice_get, same_Some}
use Rattle.std.proofs.lemmas.List.{get_or_append_left, get_or_push, length-append}
use Rattle.filter_tree.specs.Expr.{AtomOf, Expr}
use Rattle.filter_tree.specs.Expr as e
use Rattle.filter_tree.specs.Logic.{and_of, or_of, not_of, is_of}
use Rattle.filter_tree.specs.Mask.{lift_one, lift_two}
use Rattle.filter_tree.specs.Paths.{Path, possible_of}
use Rattle.filter_tree.specs.declared.mask.Mask.{Mask}
use Rattle.shard_checker.specs.KnownAtoms.{atom_mask, atom_masks}
use Rattle.shard_checker.specs.Steps.{Stands, IsFilter, IsOrdered, PartsBefore, mask_in, masks_of, step_mask, IsSettled}
use Rattle.shard_checker.specs.declared.steps.FormulaNode.{FormulaNode}
use Rattle.shard_checker.specs.declared.steps.FormulaNode.TheVariants.{Const, Atom, Not, And, Or, Is}

-- a step's set depends on the sets of its parts alone
step_same : (atoms one other : List Mask) (number : ℕ) (step : FormulaNode)
    → ((part : ℕ) → part < number → mask_in one part ≡ mask_in other part) → PartsBefore number step
    → step_mask atoms one step ≡ step_mask atoms other step
step_same atoms one other number (Const known) same h = refl
step_same atoms one other number (Atom place) same h = refl
step_same atoms one other number (Not part) same h = ap (lift_one not_of) (same part h)
step_same atoms one other number (And left right) same h =
    ap (λ m. lift_two and_of m (mask_in one right)) (same left h.0)
    ∙ ap (lift_two and_of (mask_in other left)) (same right h.1)
step_same atoms one other number (Or left right) same h =
    ap (λ m. lift_two or_of m (mask_in one right)) (same left h.0)
    ∙ ap (lift_two or_of (mask_in other left)) (same right h.1)
step_same atoms one other number (Is test part) same h = ap (lift_one (is_of test)) (same part h)

-- later steps leave the sets of those before them as they are
kept_before : (atoms masks : List Mask) (steps : List FormulaNode) (part : ℕ) → part < length masks
    → mask_in (masks_of atoms masks steps) part ≡ mask_in masks part
kept_before atoms masks [] part h = refl
kept_before atoms masks (step ∷ steps) part h =
    let longer : length (masks ++ step_mask atoms masks step ∷ []) ≡ length masks + 1 =
    length-append masks (step_mask atoms masks step ∷ []) in
    kept_before atoms (masks ++ step_mask atoms masks step ∷ []) steps part (omega arith)
    ∙ get_or_append_left masks (step_mask atoms masks step ∷ []) _ part h

settled_from : (atoms masks : List Mask) (steps : List FormulaNode) (start : ℕ) → length masks ≡ start
    → ((number : ℕ) (step : FormulaNode) → slice_get steps number ≡ Some step → PartsBefore (start + number) step)
    → (number : ℕ) (step : FormulaNode) → slice_get steps number ≡ Some step
    → mask_in (masks_of atoms masks steps) (start + number) ≡ step_mask atoms (masks_of atoms masks steps) step
settled_from atoms masks [] start long ordered number step h = absurd cc
settled_from atoms masks (first ∷ steps) start long ordered zero step h =
    let more : List Mask = masks ++ step_mask atoms masks first ∷ [] in
    let longer : length more ≡ length masks + 1 = length-append masks (step_mask atoms masks first ∷ []) in
    let is : first ≡ step = same_Some first step h in
    kept_before atoms more steps (start + 0) (omega arith)
    ∙ get_or_push masks (step_mask atoms masks first) _ (start + 0) (omega arith)
    ∙ ap (step_mask atoms masks) is
    ∙ sym (step_same atoms (masks_of atoms more steps) masks (start + 0) step
    (λ part before. kept_before atoms masks (first ∷ steps) part (omega (arith, before, long)))
    (ordered 0 step h))
settled_from atoms masks (first ∷ steps) start long ordered (suc number) step h =
    let more : List Mask = masks ++ step_mask atoms masks first ∷ [] in
    let longer : length more ≡ length masks + 1 = length-append masks (step_mask atoms masks first ∷ []) in
    let next : start + 1 + number ≡ start + suc number = omega arith in
    ap (mask_in (masks_of atoms more steps)) (sym next)
    ∙ settled_from atoms more steps (start + 1) (omega arith)
    (λ later found at.
    let same : start + suc later ≡ start + 1 + later = omega arith in
    subst (λ (k : ℕ). PartsBefore k found) same (ordered (suc later) found at))
    number step h

-- the sets of steps that follow one after another are those that follow from the sets of their parts
pub masks_settled : (atoms : List Mask) (steps : List FormulaNode) → IsOrdered steps
    → IsSettled steps atoms (masks_of atoms [] steps)
masks_settled atoms steps ordered = record {
  each = λ number step h.
      let same : 0 + number ≡ number = omega arith in
      subst (λ (k : ℕ). mask_in (masks_of atoms [] steps) k ≡ step_mask atoms (masks_of atoms [] steps) step) same
      (settled_from atoms [] steps 0 refl
      (λ later found at.
      let here : later ≡ 0 + later = omega arith in
      subst (λ (k : ℕ). PartsBefore k found) here (ordered.each later found at))
      number step h);
}

-- ---- filters

pub atom_there : (atoms : List AtomOf) (path : Path) (place : ℕ) (atom : AtomOf) → slice_get atoms place ≡ Some atom
    → mask_in (atom_masks atoms path) place ≡ atom_mask path atom
atom_there atoms path place atom h =
    get_or_from_slice_get (atom_masks atoms path) place (atom_mask path atom) _
    (slice_get-map (atom_mask path) atoms place ∙ ap (option_map (atom_mask path)) h)

module _ (atoms : List AtomOf) (path : Path) (steps : List FormulaNode) (masks : List Mask)
    (settled : IsSettled steps (atom_masks atoms path) masks) where
  stands_for : (number : ℕ) (filter : Expr) → Stands atoms steps number filter
      → mask_in masks number ≡ possible_of filter path
  stands_for number (e.Const known) h = settled.each number _ h
  stands_for number (e.Atom atom) h = settled.each number _ h.1.0 ∙ atom_there atoms path h.0 atom h.1.1
  stands_for number (e.Not part) h = settled.each number _ h.1.0 ∙ ap (lift_one not_of) (stands_for h.0 part h.1.1)
  stands_for number (e.And left right) h =
      settled.each number _ h.1.1.0 ∙ ap (λ m. lift_two and_of m (mask_in masks h.1.0)) (stands_for h.0 left h.1.1.1.0)
      ∙ ap (lift_two and_of (possible_of left path)) (stands_for h.1.0 right h.1.1.1.1)
  stands_for number (e.Or left right) h =
      settled.each number _ h.1.1.0 ∙ ap (λ m. lift_two or_of m (mask_in masks h.1.0)) (stands_for h.0 left h.1.1.1.0)
      ∙ ap (lift_two or_of (possible_of left path)) (stands_for h.1.0 right h.1.1.1.1)
  stands_for number (e.Is test part) h = settled.each number _ h.1.0
      ∙ ap (lift_one (is_of test)) (stands_for h.0 part h.1.1)

  pub filter_mask : (number : ℕ) (filter : Expr) → IsFilter atoms steps number filter
      → mask_in masks number ≡ possible_of filter path
  filter_mask number filter h = stands_for number filter h.stands

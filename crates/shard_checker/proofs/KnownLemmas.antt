-- What is known about atoms as a path grows and shrinks.
use Rattle.std.proofs.Common.{◌≡◌, ℕ, zero, suc, Bool, true, false, ◌||◌, List, [], ◌∷◌, ◌++◌, refl, sym, ap, subst, ◌∙◌, append_assoc}
use Rattle.std.specs.Prelude.{Option, Some, None, slice_get, slice_set, if◌then◌else◌}
use Rattle.std.specs.List.{list_any}
use Rattle.std.proofs.lemmas.List.{append-nil}
use Rattle.std.proofs.lemmas.Option.{same_Some}
use Rattle.filter_tree.specs.Expr.{AtomOf, Cmp, IsNull, In, Between, Distinct}
use Rattle.filter_tree.specs.Paths.{Path, first_value, known_or_open}
use Rattle.filter_tree.specs.Same.{same_atom}
use Rattle.filter_tree.specs.declared.tri.Tri.{Tri}
use Rattle.filter_tree.specs.declared.tri.Tri.TheVariants.{True, False, Null}
use Rattle.filter_tree.proofs.SameLemmas.{same_atom_is, same_atom_of_equal}
use Rattle.shard_checker.specs.KnownAtoms.{Differ, atom_mask, atom_masks, met, AreUndos, undo_of, IsKnown, Learns, TakesBack}
use Rattle.shard_checker.specs.Steps.{mask_in}
use Rattle.shard_checker.specs.declared.known.Undo.{Undo}
use Rattle.shard_checker.specs.declared.known.Known.{Known}
use Rattle.shard_checker.proofs.MaskLemmas.{atom_there}
use Rattle.filter_tree.proofs.Tests.{by_test}

pub none_of : (p q : Bool) → (p || q) ≡ false → (p ≡ false) × (q ≡ false)
none_of true q h = absurd cc
none_of false q h = (refl, h)

-- ---- one atom

first_or : Option Tri → Option Tri → Option Tri
first_or None next = next
first_or (Some value) next = Some value

first_more : (atom tested : AtomOf) (value : Tri) (path : Path)
    → first_value atom (path ++ (tested, value) ∷ [])
    ≡ first_or (first_value atom path) (if same_atom atom tested then Some value else None)
unfolding first_or
first_more atom tested value [] = refl
first_more atom tested value (entry ∷ path) = by_test (same_atom atom entry.0)
    (λ here. rw here refl)
    (λ later. rw later (first_more atom tested value path))

found_or_met : (found : Option Tri) (atom : AtomOf) (value : Tri)
    → known_or_open (first_or found (Some value)) atom ≡ met (known_or_open found atom) value
unfolding first_or
found_or_met None (Cmp term op constant) value = refl
found_or_met None (IsNull column) value = refl
found_or_met None (In term constants) value = refl
found_or_met None (Between term low high) value = refl
found_or_met None (Distinct term constant) value = refl
found_or_met (Some True) atom value = refl
found_or_met (Some False) atom value = refl
found_or_met (Some Null) atom value = refl

found_or_none : (found : Option Tri) → first_or found None ≡ found
unfolding first_or
found_or_none None = refl
found_or_none (Some value) = refl

mask_same : (atom tested : AtomOf) (value : Tri) (path : Path) → same_atom atom tested ≡ true
    → atom_mask (path ++ (tested, value) ∷ []) atom ≡ met (atom_mask path atom) value
mask_same atom tested value path same =
    ap (λ found. known_or_open found atom) (first_more atom tested value path)
    ∙ ap (λ (b : Bool). known_or_open (first_or (first_value atom path) (if b then Some value else None)) atom) same
    ∙ found_or_met (first_value atom path) atom value

mask_other : (atom tested : AtomOf) (value : Tri) (path : Path) → same_atom atom tested ≡ false
    → atom_mask (path ++ (tested, value) ∷ []) atom ≡ atom_mask path atom
mask_other atom tested value path other =
    ap (λ found. known_or_open found atom) (first_more atom tested value path)
    ∙ ap (λ (b : Bool). known_or_open (first_or (first_value atom path) (if b then Some value else None)) atom) other
    ∙ ap (λ found. known_or_open found atom) (found_or_none (first_value atom path))

-- ---- all atoms

pub other_way : (one other : AtomOf) → same_atom one other ≡ false → same_atom other one ≡ false
other_way one other h = by_test (same_atom other one)
    (λ same. absurd (let found : same_atom one other ≡ true =
    same_atom_of_equal one other (sym (same_atom_is other one same)) in cc))
    (λ differs. differs)

masks_other : (atoms : List AtomOf) (tested : AtomOf) (value : Tri) (path : Path)
    → list_any (same_atom tested) atoms ≡ false
    → atom_masks atoms (path ++ (tested, value) ∷ []) ≡ atom_masks atoms path
masks_other [] tested value path h = refl
masks_other (atom ∷ atoms) tested value path h =
    let both = none_of (same_atom tested atom) (list_any (same_atom tested) atoms) h in
    ap (λ m. m ∷ atom_masks atoms (path ++ (tested, value) ∷ []))
    (mask_other atom tested value path (other_way tested atom both.0))
    ∙ ap (λ ms. atom_mask path atom ∷ ms) (masks_other atoms tested value path both.1)

pub not_there : (test : AtomOf → Bool) (atoms : List AtomOf) (number : ℕ) (atom : AtomOf)
    → list_any test atoms ≡ false → slice_get atoms number ≡ Some atom → test atom ≡ false
not_there test [] number atom h there = absurd cc
not_there test (first ∷ atoms) zero atom h there =
    let both = none_of (test first) (list_any test atoms) h in
    subst (λ a. test a ≡ false) (same_Some first atom there) both.0
not_there test (first ∷ atoms) (suc number) atom h there =
    let both = none_of (test first) (list_any test atoms) h in not_there test atoms number atom both.1 there

masks_learned : (atoms : List AtomOf) (number : ℕ) (atom : AtomOf) (value : Tri) (path : Path) → Differ atoms
    → slice_get atoms number ≡ Some atom
    → slice_set (atom_masks atoms path) number (met (mask_in (atom_masks atoms path) number) value)
    ≡ atom_masks atoms (path ++ (atom, value) ∷ [])
masks_learned [] number atom value path differ there = absurd cc
masks_learned (first ∷ atoms) zero atom value path differ there =
    let same : first ≡ atom = same_Some first atom there in
    subst (λ a. met (atom_mask path first) value ∷ atom_masks atoms path
    ≡ atom_masks (first ∷ atoms) (path ++ (a, value) ∷ [])) same
    (ap (λ m. m ∷ atom_masks atoms path) (sym (mask_same first first value path (same_atom_of_equal first first refl)))
    ∙ ap (λ ms. atom_mask (path ++ (first, value) ∷ []) first ∷ ms) (sym (masks_other atoms first value path differ.0)))
masks_learned (first ∷ atoms) (suc number) atom value path differ there =
    ap (λ ms. atom_mask path first ∷ ms) (masks_learned atoms number atom value path differ.1 there)
    ∙ ap (λ m. m ∷ atom_masks atoms (path ++ (atom, value) ∷ []))
    (sym (mask_other first atom value path (not_there (same_atom first) atoms number atom differ.0 there)))

masks_taken_back : (atoms : List AtomOf) (number : ℕ) (atom : AtomOf) (value : Tri) (path : Path) → Differ atoms
    → slice_get atoms number ≡ Some atom
    → slice_set (atom_masks atoms (path ++ (atom, value) ∷ [])) number (atom_mask path atom) ≡ atom_masks atoms path
masks_taken_back [] number atom value path differ there = absurd cc
masks_taken_back (first ∷ atoms) zero atom value path differ there =
    let same : first ≡ atom = same_Some first atom there in
    subst (λ a. atom_mask path a ∷ atom_masks atoms (path ++ (a, value) ∷ []) ≡ atom_masks (first ∷ atoms) path) same
    (ap (λ ms. atom_mask path first ∷ ms) (masks_other atoms first value path differ.0))
masks_taken_back (first ∷ atoms) (suc number) atom value path differ there =
    ap (λ ms. atom_mask (path ++ (atom, value) ∷ []) first ∷ ms)
    (masks_taken_back atoms number atom value path differ.1 there)
    ∙ ap (λ m. m ∷ atom_masks atoms path)
    (mask_other first atom value path (not_there (same_atom first) atoms number atom differ.0 there))

-- ---- what was there before

before_more : (atoms : List AtomOf) (done : Path) (undos : List Undo) (path : Path) (before : Undo)
    (entry : AtomOf × Tri) → AreUndos atoms done undos path
    → slice_get atoms before.number ≡ Some entry.0 → before.mask ≡ atom_mask (done ++ path) entry.0
    → AreUndos atoms done (undos ++ before ∷ []) (path ++ entry ∷ [])
before_more atoms done [] [] before entry h there was =
    ((there, was ∙ ap (λ (p : Path). atom_mask p entry.0) (append-nil done)), tt)
before_more atoms done [] (e ∷ path) before entry h there was = absurd h
before_more atoms done (b ∷ undos) [] before entry h there was = absurd h
before_more atoms done (b ∷ undos) (e ∷ path) before entry h there was = (
  h.0,
  before_more atoms (done ++ e ∷ []) undos path before entry h.1 there
      (was ∙ ap (λ (p : Path). atom_mask p entry.0) (sym (append_assoc done (e ∷ []) path))),
)

none_before : (atoms : List AtomOf) (done path : Path) (entry : AtomOf × Tri)
    → AreUndos atoms done [] (path ++ entry ∷ []) → ⊥
none_before atoms done [] entry h = h
none_before atoms done (e ∷ path) entry h = h

none_on_path : (atoms : List AtomOf) (done : Path) (undos : List Undo) (before : Undo)
    → AreUndos atoms done (undos ++ before ∷ []) [] → ⊥
none_on_path atoms done [] before h = h
none_on_path atoms done (b ∷ undos) before h = h

before_less : (atoms : List AtomOf) (done : Path) (undos : List Undo) (path : Path) (before : Undo)
    (entry : AtomOf × Tri)
    → AreUndos atoms done (undos ++ before ∷ []) (path ++ entry ∷ [])
    → AreUndos atoms done undos path
    × ((slice_get atoms before.number ≡ Some entry.0) × (before.mask ≡ atom_mask (done ++ path) entry.0))
before_less atoms done [] [] before entry h =
    (tt, (h.0.0, h.0.1 ∙ ap (λ (p : Path). atom_mask p entry.0) (sym (append-nil done))))
before_less atoms done [] (e ∷ path) before entry h = absurd (none_before atoms (done ++ e ∷ []) path entry h.1)
before_less atoms done (b ∷ undos) [] before entry h =
    absurd (none_on_path atoms (done ++ entry ∷ []) undos before h.1)
before_less atoms done (b ∷ undos) (e ∷ path) before entry h =
    let rest = before_less atoms (done ++ e ∷ []) undos path before entry h.1 in
    ((h.0, rest.0), (rest.1.0, rest.1.1 ∙ ap (λ (p : Path). atom_mask p entry.0) (append_assoc done (e ∷ []) path)))

-- ---- what is known

pub known_learned : (atoms : List AtomOf) (old new : Known) (path : Path) (number : ℕ) (atom : AtomOf) (value : Tri)
    → Differ atoms → IsKnown atoms old path
    → slice_get atoms number ≡ Some atom → Learns old new number value → IsKnown atoms new (path ++ (atom, value) ∷ [])
known_learned atoms old new path number atom value differ known there learns = record {
  masks = learns.masks ∙ ap (λ ms. slice_set ms number (met (mask_in ms number) value)) known.masks
      ∙ masks_learned atoms number atom value path differ there;
  undos = subst (λ bs. AreUndos atoms [] bs (path ++ (atom, value) ∷ [])) (sym learns.undos)
      (before_more atoms [] old.undos.items path (undo_of number (mask_in old.atoms.items number)) (atom, value)
      known.undos there
      (ap (λ ms. mask_in ms number) known.masks ∙ atom_there atoms path number atom there));
}

module _ (atoms : List AtomOf) (old new : Known) (path : Path) (before : Undo) (atom : AtomOf) (value : Tri)
    (known : IsKnown atoms old (path ++ (atom, value) ∷ []))
    (takes : TakesBack old new before) where
  parts : AreUndos atoms [] new.undos.items path
      × ((slice_get atoms before.number ≡ Some atom) × (before.mask ≡ atom_mask path atom))
  parts = before_less atoms [] new.undos.items path before (atom, value)
      (subst (λ bs. AreUndos atoms [] bs (path ++ (atom, value) ∷ [])) takes.undos known.undos)

  pub known_taken_back : Differ atoms → IsKnown atoms new path
  known_taken_back differ = record {
    masks = takes.masks ∙ ap (λ ms. slice_set ms before.number before.mask) known.masks
        ∙ ap (slice_set (atom_masks atoms (path ++ (atom, value) ∷ [])) before.number) parts.1.1
        ∙ masks_taken_back atoms before.number atom value path differ parts.1.0;
    undos = parts.0;
  }

  pub was_named : slice_get atoms before.number ≡ Some atom
  was_named = parts.1.0

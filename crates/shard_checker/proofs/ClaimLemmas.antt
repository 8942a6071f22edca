-- What is wrong with the claims of owners, as they are added and as what is known about the atoms changes.
use Rattle.std.proofs.Common.{◌≡◌, ℕ, ◌+◌, ◌<◌, ◌≤◌, List, [], ◌∷◌, ◌++◌, length, refl, sym, ap, ◌∙◌, arith}
use Rattle.std.specs.Prelude.{Option, Some, None, slice_set}
use Rattle.std.specs.Vec.{with_items}
use Rattle.std.proofs.lemmas.List.{length-set, set-get_or, map-set, with_items_is}
use Rattle.filter_tree.specs.declared.mask.Mask.{Mask}
use Rattle.shard_checker.specs.Claims.{claim_refusal, claims_refusal, steps_at, refusal_due, Begin, Records, AreDetermined, AreWaiting}
use Rattle.shard_checker.specs.LeafMasks.{all_at, at_leaf}
use Rattle.shard_checker.specs.Refusal.{Subject, earliest}
use Rattle.shard_checker.specs.Steps.{mask_in, masks_of}
use Rattle.shard_checker.specs.declared.claims.Claim.{Claim}
use Rattle.shard_checker.specs.declared.claims.Claims.{Claims}
use Rattle.shard_checker.specs.declared.error.CheckError.{CheckError}
use Rattle.shard_checker.specs.declared.formulas.Formulas.{Formulas}
use Rattle.shard_checker.specs.declared.leaf_masks.LeafMasks.{LeafMasks}
use Rattle.shard_checker.proofs.WalkLemmas.{first_one_of}

module _ (subject : Subject) (roots : List ℕ) where
  -- what is wrong depends on the steps at the claims' leaves alone
  pub same_at_leaves : (one other : ℕ → List Mask) (leaf : ℕ) (claims : List Claim)
      → ((k : ℕ) → leaf ≤ k → k < leaf + length claims → one k ≡ other k)
      → claims_refusal subject roots one leaf claims ≡ claims_refusal subject roots other leaf claims
  same_at_leaves one other leaf [] same = refl
  same_at_leaves one other leaf (claim ∷ claims) same =
      ap (λ masks. earliest (claim_refusal subject roots masks claim)
      (claims_refusal subject roots one (leaf + 1) claims)) (same leaf (omega arith) (omega arith))
      ∙ ap (earliest (claim_refusal subject roots (other leaf) claim))
      (same_at_leaves one other (leaf + 1) claims
      (λ k after before. same k (omega (arith, after)) (omega (arith, before))))

  pub one_more : (masks : ℕ → List Mask) (leaf last : ℕ) (claims : List Claim) (claim : Claim)
      → last ≡ leaf + length claims
      → claims_refusal subject roots masks leaf (claims ++ claim ∷ [])
      ≡ earliest (claims_refusal subject roots masks leaf claims) (claim_refusal subject roots (masks last) claim)
  one_more masks leaf last [] claim at =
      let here : leaf ≡ last = omega arith in
      first_none (claim_refusal subject roots (masks leaf) claim)
      ∙ ap (λ (k : ℕ). claim_refusal subject roots (masks k) claim) here
    where
      first_none : (refusal : Option CheckError) → earliest refusal None ≡ refusal
      first_none None = refl
      first_none (Some error) = refl
  one_more masks leaf last (first ∷ claims) claim at =
      ap (earliest (claim_refusal subject roots (masks leaf) first))
      (one_more masks (leaf + 1) last claims claim (omega arith))
      ∙ sym (first_one_of (claim_refusal subject roots (masks leaf) first)
      (claims_refusal subject roots masks (leaf + 1) claims) (claim_refusal subject roots (masks last) claim))

-- ---- what is known changes

pub recorded_due : (subject : Subject) (formulas : Formulas) (old new : Claims) (number : ℕ) (mask : Mask)
    → Records old new number mask → refusal_due subject formulas new ≡ refusal_due subject formulas old
recorded_due subject formulas old new number mask records =
    ap (claims_refusal subject formulas.roots.items (steps_at formulas new) 0) records.same
    ∙ same_at_leaves subject formulas.roots.items (steps_at formulas new) (steps_at formulas old) 0 old.list.items
    (λ leaf after before. ap (λ (atoms : List Mask). masks_of atoms [] formulas.steps.list.items)
    (records.before leaf (omega (arith, before))))

pub recorded_waiting : (known after : List Mask) (old new : Claims) (number : ℕ) (mask : Mask)
    → AreWaiting known old → Records old new number mask → after ≡ slice_set known number mask
    → AreWaiting after new
recorded_waiting known after old new number mask waiting records is =
    let long : length new.list.items ≡ length old.list.items = ap length records.same in
    record {
      room = omega (arith, waiting.room);
      later = λ leaf past within.
          records.later leaf (omega (arith, past)) within
          ∙ ap (λ (atoms : List Mask). slice_set atoms number mask)
          (waiting.later leaf (omega (arith, past)) within)
          ∙ sym is;
    }

-- ---- no claims

pub begun_waiting : (known : List Mask) (claims : Claims) → Begin known claims → AreWaiting known claims
begun_waiting known claims begins =
    let long : length claims.list.items ≡ 0 = ap length begins.none in
    record {
      room = omega arith;
      later = λ leaf past within. begins.atoms leaf within;
    }

-- ---- the steps are determined

pub due_if_determined : (subject : Subject) (formulas : Formulas) (old new : Claims) → length old.list.items ≤ 64
    → new.list ≡ old.list → new.atoms ≡ old.atoms → AreDetermined formulas.steps.list.items new
    → claims_refusal subject formulas.roots.items (λ leaf. all_at leaf new.steps.items) 0 new.list.items
    ≡ refusal_due subject formulas old
due_if_determined subject formulas old new room same_list same_atoms determined =
    ap (λ list. claims_refusal subject formulas.roots.items (λ leaf. all_at leaf new.steps.items) 0 list.items)
    same_list
    ∙ same_at_leaves subject formulas.roots.items (λ leaf. all_at leaf new.steps.items) (steps_at formulas old) 0
    old.list.items
    (λ leaf after before. determined.each leaf (omega (arith, before, room))
    ∙ ap (λ atoms. masks_of (all_at leaf atoms.items) [] formulas.steps.list.items) same_atoms)

-- ---- a set is put at later leaves

abbrev with_atoms : Claims → List LeafMasks → Claims
with_atoms claims atoms =
    record { list = claims.list; atoms = with_items claims.atoms atoms; steps = claims.steps }

put_at : (leaf : ℕ) (claims : Claims) (atoms : List LeafMasks) (number : ℕ) (masks : LeafMasks)
    → atoms ≡ slice_set claims.atoms.items number masks
    → all_at leaf (with_atoms claims atoms).atoms.items
    ≡ slice_set (all_at leaf claims.atoms.items) number (at_leaf leaf masks)
put_at leaf claims atoms number masks put =
    ap (all_at leaf)
    (with_items_is claims.atoms atoms
    (ap length put ∙ length-set claims.atoms.items number masks ∙ sym claims.atoms.ok.0) ∙ put)
    ∙ map-set (at_leaf leaf) claims.atoms.items number masks

pub recorded : (old : Claims) (atoms : List LeafMasks) (number : ℕ) (mask : Mask) (found masks : LeafMasks)
    → atoms ≡ slice_set old.atoms.items number masks
    → ((leaf : ℕ) → at_leaf leaf found ≡ mask_in (all_at leaf old.atoms.items) number)
    → ((leaf : ℕ) → leaf < length old.list.items → at_leaf leaf masks ≡ at_leaf leaf found)
    → ((leaf : ℕ) → length old.list.items ≤ leaf → leaf < 64 → at_leaf leaf masks ≡ mask)
    → Records old (with_atoms old atoms) number mask
recorded old atoms number mask found masks put is before later = record {
  same = refl;
  before = λ leaf less. put_at leaf old atoms number masks put
      ∙ ap (slice_set (all_at leaf old.atoms.items) number) (before leaf less ∙ is leaf)
      ∙ set-get_or (all_at leaf old.atoms.items) number _;
  later = λ leaf past within. put_at leaf old atoms number masks put
      ∙ ap (slice_set (all_at leaf old.atoms.items) number) (later leaf past within);
}

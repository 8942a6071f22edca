-- What is wrong with nodes that name an owner and are still to be checked. Certificates are specific to this project,
-- and no section of PostgreSQL's documentation describes them.
use Rattle.std.specs.Prelude.{◌≡◌, ◌<◌, ◌≤◌, ℕ, ◌+◌, if◌then◌else◌, List, [], ◌∷◌, map, length, Option, Some, None, slice_get, slice_set}
use Rattle.filter_tree.specs.declared.mask.Mask.{Mask}
use Rattle.shard_checker.specs.LeafMasks.{all_at}
use Rattle.shard_checker.specs.Owners.{is_surely_true}
use Rattle.shard_checker.specs.Refusal.{Subject, earliest, second_refusal}
use Rattle.shard_checker.specs.Steps.{mask_in, masks_of, second_among}
use Rattle.shard_checker.specs.declared.claims.Claim.{Claim}
use Rattle.shard_checker.specs.declared.claims.Claims.{Claims}
use Rattle.shard_checker.specs.declared.error.CheckError.{CheckError}
use Rattle.shard_checker.specs.declared.error.CheckError.TheVariants.{BadIndex, NotOwner}
use Rattle.shard_checker.specs.declared.formulas.Formulas.{Formulas}
use Rattle.shard_checker.specs.declared.steps.FormulaNode.{FormulaNode}

abbrev pub claim_of : ℕ → ℕ → Claim
claim_of node owner = record { node = node; owner = owner }

-- ---- what is wrong

-- what is wrong with a claim, by the step of the owner's filter; the steps may be these, and those of the shares'
-- filters have the numbers of the roots
abbrev pub root_refusal : Subject → List ℕ → List Mask → Claim → Option ℕ → Option CheckError
root_refusal subject roots masks claim None = Some (BadIndex subject.table claim.node)
root_refusal subject roots masks claim (Some root) =
    if is_surely_true (mask_in masks root) then
    second_refusal subject claim.node (second_among claim.owner 0 (map (mask_in masks) roots))
    else Some (NotOwner subject.table claim.node)

abbrev pub claim_refusal : Subject → List ℕ → List Mask → Claim → Option CheckError
claim_refusal subject roots masks claim = root_refusal subject roots masks claim (slice_get roots claim.owner)

-- what is wrong with the first wrong one of some claims; the first of them has this leaf, and the steps may be this at
-- each leaf
abbrev pub claims_refusal : Subject → List ℕ → (ℕ → List Mask) → ℕ → List Claim → Option CheckError
claims_refusal subject roots masks leaf [] = None
claims_refusal subject roots masks leaf (claim ∷ claims) =
    earliest (claim_refusal subject roots (masks leaf) claim) (claims_refusal subject roots masks (leaf + 1) claims)

-- what the steps may be at a leaf
abbrev pub steps_at : Formulas → Claims → ℕ → List Mask
steps_at formulas claims leaf = masks_of (all_at leaf claims.atoms.items) [] formulas.steps.list.items

-- what is wrong with the first wrong one of the claims
abbrev pub refusal_due : Subject → Formulas → Claims → Option CheckError
refusal_due subject formulas claims =
    claims_refusal subject formulas.roots.items (steps_at formulas claims) 0 claims.list.items

-- ---- what is known at their leaves

-- there are no claims, and at each leaf the atoms may be these
pub record Begin (known : List Mask) (claims : Claims) : Type 0 where
  pub none : claims.list.items ≡ []
  pub atoms : (leaf : ℕ) → leaf < 64 → all_at leaf claims.atoms.items ≡ known

-- at each later leaf, the atom of the number may be this
pub record Records (old new : Claims) (number : ℕ) (mask : Mask) : Type 0 where
  pub same : new.list.items ≡ old.list.items
  pub before : (leaf : ℕ) → leaf < length old.list.items → all_at leaf new.atoms.items ≡ all_at leaf old.atoms.items
  pub later : (leaf : ℕ) → length old.list.items ≤ leaf → leaf < 64
      → all_at leaf new.atoms.items ≡ slice_set (all_at leaf old.atoms.items) number mask

-- at each leaf, it was determined what the steps may be
pub record AreDetermined (steps : List FormulaNode) (claims : Claims) : Type 0 where
  pub each : (leaf : ℕ) → leaf < 64
      → all_at leaf claims.steps.items ≡ masks_of (all_at leaf claims.atoms.items) [] steps

-- there is a leaf for each claim, and at each leaf after them the atoms may be these
pub record AreWaiting (known : List Mask) (claims : Claims) : Type 0 where
  pub room : length claims.list.items ≤ 64
  pub later : (leaf : ℕ) → length claims.list.items ≤ leaf → leaf < 64 → all_at leaf claims.atoms.items ≡ known

-- What a walk preserves about the path, as it enters branches and leaves them, and what it says about owners.
use Rattle.std.proofs.Common.{◌≡◌, ℕ, zero, suc, ◌+◌, ◌<◌, get_or, Bool, not, ◌&&◌, List, [], ◌∷◌, ◌++◌, length, refl, sym, ap, subst, ◌∙◌, arith, length-append}
use Rattle.std.specs.Prelude.{◌==◌, if◌then◌else◌, Option, Some, None, slice_get, slice_set, map}
use Rattle.std.specs.Global.{Vec}
use Rattle.std.specs.Option.{option_map}
use Rattle.std.specs.Borrow.{Bor}
use Rattle.std.proofs.lemmas.List.{map-append}
use Rattle.std.proofs.lemmas.Option.{slice_get-map, same_Some}
use Rattle.filter_tree.specs.Expr.{AtomOf}
use Rattle.filter_tree.specs.Paths.{Path, path_view, possible_of}
use Rattle.filter_tree.specs.Shape.{atom_view}
use Rattle.filter_tree.specs.declared.filter.Atom.{Atom}
use Rattle.filter_tree.specs.declared.mask.Mask.{Mask}
use Rattle.filter_tree.specs.declared.tri.Tri.{Tri}
use Rattle.filter_tree.specs.declared.tri.Tri.TheVariants.{True, False, Null}
use Rattle.replica_identity.specs.Shares.{ShareOf, Nothing, Everything, Where}
use Rattle.shard_checker.specs.Claims.{Records, claim_of, claim_refusal, claims_refusal, refusal_due, root_refusal, steps_at}
use Rattle.shard_checker.specs.KnownAtoms.{AreUndos, IsKnown, Learns, TakesBack, atom_masks, met}
use Rattle.shard_checker.specs.Owners.{is_surely_true, must_take, may_take, second_owner}
use Rattle.shard_checker.specs.CandidateSets.{AreAtomSets}
use Rattle.shard_checker.specs.LeafMasks.{all_at}
use Rattle.shard_checker.specs.Remaining.{Keeps, Restores, Remain}
use Rattle.shard_checker.specs.WalkInvariants.{AgreesWithPath, GoesBack, candidates_of_table}
use Rattle.shard_checker.specs.Refusal.{Subject, earliest, owner_refusal, second_refusal}
use Rattle.shard_checker.specs.Steps.{AreFilters, IsCompiled, IsSettled, filter_of, mask_in, masks_of, second_among}
use Rattle.shard_checker.specs.Walking.{onward}
use Rattle.shard_checker.specs.declared.error.CheckError.TheVariants.{NotOwner}
use Rattle.shard_checker.specs.declared.candidate_sets.AtomSets.{AtomSets}
use Rattle.shard_checker.specs.declared.candidate_sets.CandidateSets.{CandidateSets}
use Rattle.shard_checker.specs.declared.formulas.Formulas.{Formulas}
use Rattle.shard_checker.specs.declared.known.Undo.{Undo}
use Rattle.shard_checker.specs.declared.known.Known.{Known}
use Rattle.shard_checker.specs.declared.claims.Claims.{Claims}
use Rattle.shard_checker.specs.declared.leaf_masks.LeafMasks.{LeafMasks}
use Rattle.shard_checker.specs.declared.remaining.Remaining.{Remaining}
use Rattle.shard_checker.specs.declared.steps.FormulaNode.{FormulaNode}
use Rattle.shard_checker.proofs.ClaimLemmas.{one_more, recorded_waiting}
use Rattle.shard_checker.proofs.CandidateSetLemmas.{zip_read}
use Rattle.shard_checker.proofs.KnownLemmas.{known_learned, known_taken_back, was_named}
use Rattle.shard_checker.proofs.MaskLemmas.{filter_mask, masks_settled}
use Rattle.shard_checker.proofs.RemainingLemmas.{more_known, less_known}
use Rattle.shard_checker.proofs.OnwardLemmas.{onward_true, onward_false, onward_null}

-- ---- a branch is entered

-- an atom's new set, recorded again, changes nothing
set_found : (masks : List Mask) (number : ℕ) (mask : Mask)
    → slice_set masks number (mask_in (slice_set masks number mask) number) ≡ slice_set masks number mask
set_found [] number mask = refl
set_found (first ∷ masks) zero mask = refl
set_found (first ∷ masks) (suc number) mask = ap (λ ms. first ∷ ms) (set_found masks number mask)

learned_again : (old new : Known) (number : ℕ) (value : Tri) → Learns old new number value
    → new.atoms.items ≡ slice_set old.atoms.items number (mask_in new.atoms.items number)
learned_again old new number value learns =
    learns.masks
    ∙ sym (set_found old.atoms.items number (met (mask_in old.atoms.items number) value))
    ∙ ap (λ (ms : List Mask). slice_set old.atoms.items number (mask_in ms number)) (sym learns.masks)

pub ready_entered : {A : _} (subject : Subject) (formulas : Formulas) (sets : CandidateSets)
    (found : AtomSets) (old new : Known) (was claims : Claims) (left kept : Remaining)
    (entries more : List (Bor (Atom A) × Tri)) (number : ℕ) (atom : Bor (Atom A)) (value : Tri)
    → AgreesWithPath subject formulas sets old was left (path_view entries)
    → Some (atom_view atom.now) ≡ slice_get subject.atoms number → Learns old new number value
    → more ≡ entries ++ (atom, value) ∷ [] → Records was claims number (mask_in new.atoms.items number)
    → found ≡ get_or sets.of_atoms.items number found → Keeps left kept found value
    → AgreesWithPath subject formulas sets new claims kept (path_view more)
ready_entered {A} subject formulas sets found old new was claims left kept entries more number atom value ready
    named learns pushed records is keeps = record {
      prepared = ready.prepared;
      knows = subst (λ (path : Path). IsKnown subject.atoms new path)
          (sym (map-append (λ (e : Bor (Atom A) × Tri). (atom_view e.0.now, e.1)) entries ((atom, value) ∷ []))
          ∙ ap path_view (sym pushed))
          (known_learned subject.atoms old new (path_view entries) number (atom_view atom.now) value
          ready.prepared.differ ready.knows (sym named) learns);
      waiting = recorded_waiting old.atoms.items new.atoms.items was claims number (mask_in new.atoms.items number)
          ready.waiting records (learned_again old new number value learns);
      left = subst (λ (path : Path). Remain (candidates_of_table subject) kept path)
          (sym (map-append (λ (e : Bor (Atom A) × Tri). (atom_view e.0.now, e.1)) entries ((atom, value) ∷ []))
          ∙ ap path_view (sym pushed))
          (more_known (candidates_of_table subject) left kept (path_view entries) (atom_view atom.now) value found
          ready.left (zip_read (AreAtomSets (candidates_of_table subject)) subject.atoms sets.of_atoms.items number
          (atom_view atom.now) found ready.prepared.tried.of_atoms (sym named) is) keeps);
    }

pub ruleset entering = (ready_entered)

-- ---- a branch is left

nothing_before : (atoms : List AtomOf) (done : Path) (undos : List Undo) (path : Path)
    → AreUndos atoms done undos path → undos ≡ [] → path ≡ []
nothing_before atoms done [] [] h e = refl
nothing_before atoms done [] (entry ∷ path) h e = absurd h
nothing_before atoms done (before ∷ undos) path h e = absurd cc

not_at_end : (path : Path) (entry : AtomOf × Tri) → path ++ entry ∷ [] ≡ [] → ⊥
not_at_end [] entry e = cc
not_at_end (first ∷ path) entry e = cc

module _ {A : _} (subject : Subject) (formulas : Formulas) (sets : CandidateSets) (was now : Known)
    (held : Claims) (left : Remaining) (old new : List (Bor (Atom A) × Tri)) (last : Bor (Atom A) × Tri)
    (ready : AgreesWithPath subject formulas sets was held left (path_view old)) (pops : old ≡ new ++ last ∷ [])
  where
    whole : path_view old ≡ path_view new ++ (atom_view last.0.now, last.1) ∷ []
    whole = ap path_view pops ∙ map-append (λ (e : Bor (Atom A) × Tri). (atom_view e.0.now, e.1)) new (last ∷ [])

    knew : IsKnown subject.atoms was (path_view new ++ (atom_view last.0.now, last.1) ∷ [])
    knew = subst (λ (path : Path). IsKnown subject.atoms was path) whole ready.knows

    pub back_ready : (before : Undo) (claims : Claims) (kept : Remaining) → TakesBack was now before
        → Records held claims before.number before.mask → Restores left kept
        → AgreesWithPath subject formulas sets now claims kept (path_view new)
    back_ready before claims kept takes records restores = record {
      prepared = ready.prepared;
      knows = known_taken_back subject.atoms was now (path_view new) before (atom_view last.0.now) last.1 knew takes
          ready.prepared.differ;
      waiting = recorded_waiting was.atoms.items now.atoms.items held claims before.number before.mask ready.waiting
          records takes.masks;
      left = less_known (candidates_of_table subject) left kept (path_view new) (atom_view last.0.now, last.1)
          (subst (λ (path : Path). Remain (candidates_of_table subject) left path) whole ready.left) restores;
    }

    pub goes_back : (before : Undo) → TakesBack was now before
        → GoesBack subject.atoms (path_view old) (path_view new) before.number last.1
    goes_back before takes = record {
      atom = atom_view last.0.now;
      path = whole;
      named = was_named subject.atoms was now (path_view new) before (atom_view last.0.now) last.1 knew takes;
    }

    pub always_known : was.undos.items ≡ [] → ⊥
    always_known e = not_at_end (path_view new) (atom_view last.0.now, last.1)
        (nothing_before subject.atoms [] was.undos.items _ knew.undos e)

pub ruleset returning = (back_ready, goes_back)

module _ (atoms : List AtomOf) (old new : Path) (number : ℕ) where
  pub true_turns : (start : Option Path) (found : Option Path) → GoesBack atoms old new number True → onward old ≡ start
      → found ≡ option_map (λ atom. new ++ (atom, False) ∷ []) (slice_get atoms number) → found ≡ start
  true_turns start found back goes is =
      is ∙ ap (option_map (λ atom. new ++ (atom, False) ∷ [])) back.named ∙ sym (onward_true new back.atom)
      ∙ ap onward (sym back.path) ∙ goes

  pub false_turns : (start : Option Path) (found : Option Path) → GoesBack atoms old new number False
      → onward old ≡ start
      → found ≡ option_map (λ atom. new ++ (atom, Null) ∷ []) (slice_get atoms number) → found ≡ start
  false_turns start found back goes is =
      is ∙ ap (option_map (λ atom. new ++ (atom, Null) ∷ [])) back.named ∙ sym (onward_false new back.atom)
      ∙ ap onward (sym back.path) ∙ goes

  pub null_goes : (start : Option Path) → GoesBack atoms old new number Null → onward old ≡ start → onward new ≡ start
  null_goes start back goes = sym (onward_null new back.atom) ∙ ap onward (sym back.path) ∙ goes

  pub goes_shorter : (value : Tri) → GoesBack atoms old new number value → length new < length old
  goes_shorter value back =
      let shorter : length old ≡ length new + 1 = ap length back.path ∙ length-append new ((back.atom, value) ∷ []) in
      omega arith

pub ended : (path : Path) (start : Option Path) → path ≡ [] → onward path ≡ start → None ≡ start
ended path start none goes = ap onward (sym none) ∙ goes

pub ruleset leaving = (true_turns, false_turns, null_goes, goes_shorter, ended)

-- ---- owners

must_by_mask : (share : ShareOf) (path : Path)
    → must_take share path ≡ is_surely_true (possible_of (filter_of share) path)
must_by_mask Nothing path = refl
must_by_mask Everything path = refl
must_by_mask (Where filter) path = refl

may_by_mask : (share : ShareOf) (path : Path) → may_take share path ≡ (possible_of (filter_of share) path).truth
may_by_mask Nothing path = refl
may_by_mask Everything path = refl
may_by_mask (Where filter) path = refl

abbrev share_mask : Path → ShareOf → Mask
share_mask path share = possible_of (filter_of share) path

second_by_masks : (owner number : ℕ) (shares : List ShareOf) (path : Path)
    → second_owner owner number shares path ≡ second_among owner number (map (share_mask path) shares)
second_by_masks owner number [] path = refl
second_by_masks owner number (share ∷ shares) path =
    ap (λ may. if not (number == owner) && may then Some number else second_owner owner (number + 1) shares path)
    (may_by_mask share path)
    ∙ ap (λ next. if not (number == owner) && (share_mask path share).truth then Some number else next)
    (second_by_masks owner (number + 1) shares path)

roots_masks : (atoms : List AtomOf) (path : Path) (steps : List FormulaNode) (masks : List Mask)
    → IsSettled steps (atom_masks atoms path) masks → (roots : List ℕ) (shares : List ShareOf)
    → AreFilters atoms steps roots shares → map (mask_in masks) roots ≡ map (share_mask path) shares
roots_masks atoms path steps masks settled [] [] h = refl
roots_masks atoms path steps masks settled [] (share ∷ shares) h = absurd h
roots_masks atoms path steps masks settled (root ∷ roots) [] h = absurd h
roots_masks atoms path steps masks settled (root ∷ roots) (share ∷ shares) h =
    ap (λ m. m ∷ map (mask_in masks) roots) (filter_mask atoms path steps masks settled root (filter_of share) h.0)
    ∙ ap (λ ms. share_mask path share ∷ ms) (roots_masks atoms path steps masks settled roots shares h.1)

module _ (subject : Subject) (formulas : Formulas) (path : Path) (masks : List Mask)
    (compiled : IsCompiled subject.atoms subject.shares formulas)
    (settled : IsSettled formulas.steps.list.items (atom_masks subject.atoms path) masks) (node number : ℕ) where
  same_masks : map (mask_in masks) formulas.roots.items ≡ map (share_mask path) subject.shares
  same_masks = roots_masks subject.atoms path formulas.steps.list.items masks settled formulas.roots.items
      subject.shares compiled.filters

  same_at : option_map (mask_in masks) (slice_get formulas.roots.items number)
      ≡ option_map (share_mask path) (slice_get subject.shares number)
  same_at = sym (slice_get-map (mask_in masks) formulas.roots.items number)
      ∙ ap (λ ms. slice_get ms number) same_masks ∙ slice_get-map (share_mask path) subject.shares number

  same_refusal : (root : Option ℕ) (found : Option ShareOf)
      → option_map (mask_in masks) root ≡ option_map (share_mask path) found
      → root_refusal subject formulas.roots.items masks (claim_of node number) root
      ≡ owner_refusal subject path node number found
  same_refusal None None h = refl
  same_refusal None (Some share) h = absurd cc
  same_refusal (Some root) None h = absurd cc
  same_refusal (Some root) (Some share) h =
      let same : mask_in masks root ≡ share_mask path share =
      same_Some (mask_in masks root) (share_mask path share) h in
      let seconds : second_refusal subject node (second_among number 0 (map (mask_in masks) formulas.roots.items))
      ≡ second_refusal subject node (second_owner number 0 subject.shares path) =
      ap (λ ms. second_refusal subject node (second_among number 0 ms)) same_masks
      ∙ ap (second_refusal subject node) (sym (second_by_masks number 0 subject.shares path)) in
      ap (λ (sure : Bool). if sure then
      second_refusal subject node (second_among number 0 (map (mask_in masks) formulas.roots.items))
      else Some (NotOwner subject.table node))
      (ap is_surely_true same ∙ sym (must_by_mask share path))
      ∙ ap (λ refusal. if must_take share path then refusal else Some (NotOwner subject.table node)) seconds

  pub owner_claimed : claim_refusal subject formulas.roots.items masks (claim_of node number)
      ≡ owner_refusal subject path node number (slice_get subject.shares number)
  owner_claimed = same_refusal (slice_get formulas.roots.items number) (slice_get subject.shares number) same_at

-- an owner's node is added to those that wait
module _ (subject : Subject) (formulas : Formulas) (sets : CandidateSets) (known : Known) (old new : Claims)
    (left : Remaining) (path : Path) (ready : AgreesWithPath subject formulas sets known old left path)
    (room : length old.list.items < 64) (node number : ℕ)
    (added : new.list.items ≡ old.list.items ++ claim_of node number ∷ []) (atoms : new.atoms ≡ old.atoms) where
  longer : length new.list.items ≡ length old.list.items + 1
  longer = ap length added ∙ length-append old.list.items (claim_of node number ∷ [])

  pub added_ready : AgreesWithPath subject formulas sets known new left path
  added_ready = record {
    prepared = ready.prepared;
    knows = ready.knows;
    waiting = record {
      room = omega (arith, room, longer);
      later = λ leaf past within. ap (λ (v : Vec LeafMasks). all_at leaf v.items) atoms
          ∙ ready.waiting.later leaf (omega (arith, past, longer)) within;
    };
    left = ready.left;
  }

  steps_here : IsSettled formulas.steps.list.items (atom_masks subject.atoms path)
      (steps_at formulas old (length old.list.items))
  steps_here =
      subst (λ (found : List Mask). IsSettled formulas.steps.list.items found
      (steps_at formulas old (length old.list.items)))
      (ready.waiting.later (length old.list.items) (omega arith) room ∙ ready.knows.masks)
      (masks_settled (all_at (length old.list.items) old.atoms.items) formulas.steps.list.items
      ready.prepared.compiled.ordered)

  pub added_due : refusal_due subject formulas new
      ≡ earliest (refusal_due subject formulas old)
      (owner_refusal subject path node number (slice_get subject.shares number))
  added_due =
      ap (λ (v : Vec LeafMasks). claims_refusal subject formulas.roots.items
      (λ leaf. masks_of (all_at leaf v.items) [] formulas.steps.list.items) 0 new.list.items) atoms
      ∙ ap (claims_refusal subject formulas.roots.items (steps_at formulas old) 0) added
      ∙ one_more subject formulas.roots.items (steps_at formulas old) 0 (length old.list.items) old.list.items
      (claim_of node number) (omega arith)
      ∙ ap (earliest (refusal_due subject formulas old))
      (owner_claimed subject formulas path (steps_at formulas old (length old.list.items)) ready.prepared.compiled
      steps_here node number)

pub ruleset claiming = (added_ready, added_due)

-- Sets of the candidates of a table, by their places.
use Rattle.std.specs.Prelude.{◌≡◌, ℕ, Bool, false, List, length, Option, Some, None, slice_get}
use Rattle.std.specs.List.{AllZip}
use Rattle.filter_tree.specs.Expr.{AtomOf}
use Rattle.filter_tree.specs.Same.{same_term}
use Rattle.filter_tree.specs.declared.filter.Term.{Term}
use Rattle.filter_tree.specs.declared.mask.Mask.{Mask}
use Rattle.filter_tree.specs.declared.tri.Tri.{Tri}
use Rattle.filter_tree.specs.declared.tri.Tri.TheVariants.{True, False, Null}
use Rattle.shard_checker.specs.BitSets.{has, Puts}
use Rattle.shard_checker.specs.Candidates.{Candidate, leaves_candidate}
use Rattle.shard_checker.specs.declared.bit_sets.BitSet.{BitSet}
use Rattle.shard_checker.specs.declared.candidate_sets.AtomSets.{AtomSets}
use Rattle.shard_checker.specs.declared.candidate_sets.CandidateSets.{CandidateSets}

-- the candidate exists, and it passes the test
abbrev pub passes : (Candidate → Bool) → Option Candidate → Bool
passes test None = false
passes test (Some candidate) = test candidate

-- the set has the places of the candidates that pass the test
pub record IsSetWhere (candidates : List Candidate) (test : Candidate → Bool) (set : BitSet) : Type 0 where
  pub each : (place : ℕ) → has set place ≡ passes test (slice_get candidates place)

-- ---- an atom

-- what an atom with a value leaves
abbrev pub set_at : AtomSets → Tri → BitSet
set_at sets True = sets.if_true
set_at sets False = sets.if_false
set_at sets Null = sets.if_null

-- the sets are empty
pub record AreEmpty (sets : AtomSets) : Type 0 where
  pub if_true : (place : ℕ) → has sets.if_true place ≡ false
  pub if_false : (place : ℕ) → has sets.if_false place ≡ false
  pub if_null : (place : ℕ) → has sets.if_null place ≡ false

-- the place is put into the sets of these values
pub record PutsAll (old new : AtomSets) (place : ℕ) (mask : Mask) : Type 0 where
  pub if_true : Puts old.if_true new.if_true place mask.truth
  pub if_false : Puts old.if_false new.if_false place mask.falsity
  pub if_null : Puts old.if_null new.if_null place mask.null

-- for each value, what the atom leaves
pub record AreAtomSets (candidates : List Candidate) (atom : AtomOf) (sets : AtomSets) : Type 0 where
  pub if_true : IsSetWhere candidates (λ candidate. leaves_candidate candidate atom True) sets.if_true
  pub if_false : IsSetWhere candidates (λ candidate. leaves_candidate candidate atom False) sets.if_false
  pub if_null : IsSetWhere candidates (λ candidate. leaves_candidate candidate atom Null) sets.if_null

abbrev pub AreSetsOfAtoms : List Candidate → List AtomOf → List AtomSets → Type 0
AreSetsOfAtoms candidates atoms sets = AllZip (AreAtomSets candidates) atoms sets

-- ---- a term

-- the candidates of the term
abbrev pub IsTermSet : List Candidate → Term → BitSet → Type 0
IsTermSet candidates term set = IsSetWhere candidates (λ candidate. same_term candidate.term term) set

abbrev pub AreSetsOfTerms : List Candidate → List Term → List BitSet → Type 0
AreSetsOfTerms candidates terms sets = AllZip (IsTermSet candidates) terms sets

-- ---- a table

pub record AreCandidateSets (candidates : List Candidate) (atoms : List AtomOf) (terms : List Term)
    (sets : CandidateSets) : Type 0 where
  pub count : sets.count ≡ length candidates
  pub of_atoms : AreSetsOfAtoms candidates atoms sets.of_atoms.items
  pub of_terms : AreSetsOfTerms candidates terms sets.of_terms.items

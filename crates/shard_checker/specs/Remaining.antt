-- Which candidates remain at the end of a path, as it grows and shrinks.
use Rattle.std.specs.Prelude.{◌≡◌, ℕ, nat_lt, ◌&&◌, List, [], ◌∷◌, ◌++◌}
use Rattle.filter_tree.specs.Paths.{Path}
use Rattle.filter_tree.specs.declared.tri.Tri.{Tri}
use Rattle.shard_checker.specs.BitSets.{has}
use Rattle.shard_checker.specs.Candidates.{Candidate, remains}
use Rattle.shard_checker.specs.CandidateSets.{IsSetWhere, set_at}
use Rattle.shard_checker.specs.declared.bit_sets.BitSet.{BitSet}
use Rattle.shard_checker.specs.declared.candidate_sets.AtomSets.{AtomSets}
use Rattle.shard_checker.specs.declared.remaining.Remaining.{Remaining}

-- the first `count` candidates remain
pub record IsAll (count : ℕ) (remaining : Remaining) : Type 0 where
  pub each : (place : ℕ) → has remaining.places place ≡ nat_lt place count
  pub undos : remaining.undos.items ≡ []

-- what an atom with a value leaves is kept
pub record Keeps (old new : Remaining) (sets : AtomSets) (value : Tri) : Type 0 where
  pub each : (place : ℕ) → has new.places place ≡ (has old.places place && has (set_at sets value) place)
  pub undos : new.undos.items ≡ old.undos.items ++ old.places ∷ []

-- what remained before the last entry remains again
pub record Restores (old new : Remaining) : Type 0 where
  pub each : (undos : List BitSet) (before : BitSet) → old.undos.items ≡ undos ++ before ∷ []
      → (new.places ≡ before) × (new.undos.items ≡ undos)

-- for each entry of a path, one after another, what remained before it
abbrev pub AreUndos : List Candidate → Path → List BitSet → Path → Type 0
AreUndos candidates done [] [] = Unit {0}
AreUndos candidates done (before ∷ undos) (entry ∷ path) =
    IsSetWhere candidates (remains done) before × AreUndos candidates (done ++ entry ∷ []) undos path
AreUndos candidates done undos path = ⊥

-- what remains is what the path leaves
pub record Remain (candidates : List Candidate) (remaining : Remaining) (path : Path) : Type 0 where
  pub places : IsSetWhere candidates (remains path) remaining.places
  pub undos : AreUndos candidates [] remaining.undos.items path

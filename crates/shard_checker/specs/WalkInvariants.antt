-- What the walk over a certificate preserves of what the path says. Certificates are specific to this project, and no
-- section of PostgreSQL's documentation describes them.
use Rattle.std.specs.Prelude.{◌≡◌, ℕ, List, [], ◌∷◌, ◌++◌, Some, slice_get}
use Rattle.filter_tree.specs.Expr.{AtomOf}
use Rattle.filter_tree.specs.Paths.{Path, path_view}
use Rattle.filter_tree.specs.declared.tri.Tri.{Tri}
use Rattle.shard_checker.specs.Candidates.{Candidate, candidates_in}
use Rattle.shard_checker.specs.CandidateSets.{AreCandidateSets}
use Rattle.shard_checker.specs.Claims.{AreWaiting}
use Rattle.shard_checker.specs.KnownAtoms.{Differ, IsKnown}
use Rattle.shard_checker.specs.Refusal as r
use Rattle.shard_checker.specs.Remaining.{Remain}
use Rattle.shard_checker.specs.Steps.{IsCompiled}
use Rattle.shard_checker.specs.declared.candidate_sets.CandidateSets.{CandidateSets}
use Rattle.shard_checker.specs.declared.claims.Claims.{Claims}
use Rattle.shard_checker.specs.Refusal.{subject_view}
use Rattle.shard_checker.specs.declared.formulas.Formulas.{Formulas}
use Rattle.shard_checker.specs.declared.known.Known.{Known}
use Rattle.shard_checker.specs.declared.remaining.Remaining.{Remaining}
use Rattle.shard_checker.specs.declared.subject.Subject.{Subject}
use Rattle.shard_checker.specs.declared.walk.Walk.{Walk}

-- what is tried for the terms of a table
abbrev pub candidates_of_table : r.Subject → List Candidate
candidates_of_table subject = candidates_in subject.columns subject.atoms subject.terms

-- the atoms are distinct, the steps are the shares' filters, and what each atom leaves of the candidates is listed
pub record IsPrepared (subject : r.Subject) (formulas : Formulas) (sets : CandidateSets) : Type 0 where
  pub differ : Differ subject.atoms
  pub compiled : IsCompiled subject.atoms subject.shares formulas
  pub tried : AreCandidateSets (candidates_of_table subject) subject.atoms subject.terms sets

-- what is known is what the path says, at the leaves after those of claims too, and the candidates that remain are
-- those that the path leaves
pub record AgreesWithPath (subject : r.Subject) (formulas : Formulas) (sets : CandidateSets) (known : Known)
    (claims : Claims) (remaining : Remaining) (path : Path) : Type 0 where
  pub prepared : IsPrepared subject formulas sets
  pub knows : IsKnown subject.atoms known path
  pub waiting : AreWaiting known.atoms.items claims
  pub left : Remain (candidates_of_table subject) remaining path

-- ---- the program's

abbrev pub Prepared : {A : _} → Subject A → Type 0
Prepared subject = IsPrepared (subject_view subject) subject.formulas.now subject.candidates.now

abbrev pub WalkAgrees : {A : _} → Subject A → Walk A → Type 0
WalkAgrees subject walk =
    AgreesWithPath (subject_view subject) subject.formulas.now subject.candidates.now walk.known walk.claims
    walk.remaining (path_view walk.path.items)

-- the last entry was removed from the path
pub record GoesBack (atoms : List AtomOf) (old new : Path) (number : ℕ) (value : Tri) : Type 0 where
  pub atom : AtomOf
  pub path : old ≡ new ++ (atom, value) ∷ []
  pub named : slice_get atoms number ≡ Some atom

-- What is left for a term at the end of a walk's path.
use Rattle.std.proofs.Common.{◌≡◌, ℕ, Bool, true, false, not, List, [], ◌∷◌, ◌++◌, get_or, refl, ap, ◌∙◌}
use Rattle.std.specs.Prelude.{Option, Some, None, IfSome, slice_get}
use Rattle.std.specs.List.{list_any}
use Rattle.std.proofs.lemmas.Map.Keys.{any_passes_from_place}
use Rattle.filter_tree.specs.Expr.{AtomOf}
use Rattle.filter_tree.specs.Paths.{Path}
use Rattle.filter_tree.specs.Same.{same_term}
use Rattle.filter_tree.specs.declared.filter.Term.{Term}
use Rattle.shard_checker.specs.BitSets.{TellsMeeting}
use Rattle.shard_checker.specs.Candidates.{is_empty, remains}
use Rattle.shard_checker.specs.CandidateSets.{IsTermSet}
use Rattle.shard_checker.specs.KnownAtoms.{AreUndos}
use Rattle.shard_checker.specs.Refusal.{Subject}
use Rattle.shard_checker.specs.WalkInvariants.{AgreesWithPath, candidates_of_table}
use Rattle.shard_checker.specs.declared.bit_sets.BitSet.{BitSet}
use Rattle.shard_checker.specs.declared.candidate_sets.CandidateSets.{CandidateSets}
use Rattle.shard_checker.specs.declared.formulas.Formulas.{Formulas}
use Rattle.shard_checker.specs.declared.known.Undo.{Undo}
use Rattle.shard_checker.specs.declared.known.Known.{Known}
use Rattle.shard_checker.specs.declared.claims.Claims.{Claims}
use Rattle.shard_checker.specs.declared.remaining.Remaining.{Remaining}
use Rattle.shard_checker.proofs.CandidateLemmas.{decided_by_candidates}
use Rattle.shard_checker.proofs.CandidateSetLemmas.{zip_read, meeting_is}
use Rattle.shard_checker.proofs.Testing.{by_either}

path_among : (atoms : List AtomOf) (done : Path) (undos : List Undo) (path : Path)
    → AreUndos atoms done undos path → (test : AtomOf → Bool)
    → list_any (λ entry. test entry.0) path ≡ true → list_any test atoms ≡ true
path_among atoms done [] [] h test some = absurd cc
path_among atoms done [] (entry ∷ path) h test some = absurd h
path_among atoms done (before ∷ undos) [] h test some = absurd h
path_among atoms done (before ∷ undos) (entry ∷ path) h test some =
    by_either (test entry.0) (list_any (λ entry. test entry.0) path) some
    (λ here. any_passes_from_place test atoms before.number entry.0 h.0.0 here)
    (λ there. path_among atoms (done ++ entry ∷ []) undos path h.1 test there)

not_not : (b : Bool) → not (not b) ≡ b
not_not true = refl
not_not false = refl

module _ (subject : Subject) (formulas : Formulas) (sets : CandidateSets) (known : Known)
    (claims : Claims) (remaining : Remaining) (path : Path)
    (agrees : AgreesWithPath subject formulas sets known claims remaining path) (number : ℕ) (set : BitSet)
    (at : set ≡ get_or sets.of_terms.items number set) (meets : Bool)
    (tells : TellsMeeting remaining.places set meets) where
  decided_of : (found : Option Term) → slice_get subject.terms number ≡ found
      → IfSome found (λ term. not meets ≡ is_empty subject.columns term path)
  decided_of None there = tt
  decided_of (Some term) there =
      let is = zip_read (IsTermSet (candidates_of_table subject)) subject.terms sets.of_terms.items number term set
      agrees.prepared.tried.of_terms there at in
      ap not
      (meeting_is (candidates_of_table subject) (remains path) (λ candidate. same_term candidate.term term)
      remaining.places set meets agrees.left.places is tells
      ∙ decided_by_candidates subject.columns subject.atoms subject.terms number term path
      (record { each = path_among subject.atoms [] known.undos.items path agrees.knows.undos }) there)
      ∙ not_not (is_empty subject.columns term path)

  pub empty_is_decided : IfSome (slice_get subject.terms number)
      (λ term. not meets ≡ is_empty subject.columns term path)
  empty_is_decided = decided_of (slice_get subject.terms number) refl

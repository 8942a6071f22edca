use Rattle.std.proofs.Common.{◌≡◌, List, true, [], sym, ap, subst, ◌∙◌}
use Rattle.std.specs.Prelude.{Some}
use Rattle.filter_tree.specs.Expr.{AtomOf}
use Rattle.filter_tree.specs.Shape.{atoms_view}
use Rattle.filter_tree.specs.declared.filter.Term.{Term}
use Rattle.filter_tree.specs.declared.table.Column.{Column}
use Rattle.shard_checker.specs.Candidates.{candidates_in}
use Rattle.shard_checker.specs.CandidateSets.{AreCandidateSets}
use Rattle.shard_checker.specs.Checks.{Checks}
use Rattle.shard_checker.specs.KnownAtoms.{Differ}
use Rattle.shard_checker.specs.Numbering.{numbered_atoms, numbered_terms}
use Rattle.shard_checker.specs.Owners.{shares_view}
use Rattle.shard_checker.specs.Refusal.{Subject, numbered_subject, subject_of}
use Rattle.shard_checker.specs.Steps.{all_name_only, IsCompiled}
use Rattle.shard_checker.specs.Candidates.{is_empty}
use Rattle.shard_checker.specs.Walking.{walk}
use Rattle.shard_checker.specs.declared.candidate_sets.CandidateSets.{CandidateSets}
use Rattle.shard_checker.proofs.NamingLemmas.{numbered_differ, numbered_names}
use Rattle.shard_checker.proofs.one_table.check_table.Goals as goal

-- the sets are those of the subject's columns, atoms and terms
same_subject : (columns columns2 : List Column) (atoms atoms2 : List AtomOf) (terms terms2 : List Term)
    (sets : CandidateSets) → columns ≡ columns2 → atoms ≡ atoms2 → terms ≡ terms2
    → AreCandidateSets (candidates_in columns atoms terms) atoms terms sets
    → AreCandidateSets (candidates_in columns2 atoms2 terms2) atoms2 terms2 sets
same_subject columns columns2 atoms atoms2 terms terms2 sets same_columns same_atoms same_terms are =
    subst (λ (found : List Column). AreCandidateSets (candidates_in found atoms2 terms2) atoms2 terms2 sets)
    same_columns
    (subst (λ (found : List AtomOf). AreCandidateSets (candidates_in columns found terms2) found terms2 sets)
    same_atoms
    (subst (λ (found : List Term). AreCandidateSets (candidates_in columns atoms found) atoms found sets) same_terms
    are))

-- the filters of the shares have no atoms other than the numbered ones
pub formulas_of-requires : goal.formulas_of-requires
formulas_of-requires g c =
    let shares = shares_view c.args.shares.now in
    let atoms : atoms_view c.deref.result.now ≡ numbered_atoms shares = ap atoms_view c.deref.ensures.value
    ∙ c.in_ok-atoms.ensures in
    subst (λ (found : List AtomOf). all_name_only found shares ≡ true) (sym atoms) (numbered_names shares)

-- the numbered atoms are distinct
pub check_subject-requires : goal.check_subject-requires
check_subject-requires g c =
    let shares = shares_view c.args.shares.now in
    let first : atoms_view c.deref.result.now ≡ numbered_atoms shares = ap atoms_view c.deref.ensures.value
    ∙ c.in_ok-atoms.ensures in
    let atoms : atoms_view c.deref-4.result.now ≡ numbered_atoms shares = ap atoms_view c.deref-4.ensures.value
    ∙ c.in_ok-atoms.ensures in
    record {
      differ = subst (λ (found : List AtomOf). Differ found) (sym atoms) (numbered_differ shares);
      compiled = subst (λ (found : List AtomOf). IsCompiled found shares c.in_ok-formulas.formulas)
          (first ∙ sym atoms) c.in_ok-formulas.ensures;
      tried = same_subject c.as_slice.result.now c.as_slice-2.result.now (atoms_view c.deref-2.result.now)
          (atoms_view c.deref-4.result.now) c.deref-3.result.now c.deref-5.result.now c.in_ok-candidates.candidates
          (c.as_slice.ensures ∙ sym c.as_slice-2.ensures)
          (ap atoms_view (c.deref-2.ensures.value ∙ sym c.deref-4.ensures.value))
          (c.deref-3.ensures.value ∙ sym c.deref-5.ensures.value) c.in_ok-candidates.ensures;
    }

-- the subject is the table's, with its atoms and terms numbered
pub returns : goal.returns
returns g c =
    let columns = c.args.table.now.columns in
    let shares = shares_view c.args.shares.now in
    let atoms : atoms_view c.deref-4.result.now ≡ numbered_atoms shares = ap atoms_view c.deref-4.ensures.value
    ∙ c.in_ok-atoms.ensures in
    let terms : c.deref-5.result.now ≡ numbered_terms shares = c.deref-5.ensures.value ∙ c.in_ok-terms.ensures in
    let same : numbered_subject c.args.number c.as_slice-2.result.now shares (atoms_view c.deref-4.result.now)
    c.deref-5.result.now ≡ subject_of c.args.number columns shares =
    ap (λ cs. numbered_subject c.args.number cs shares (atoms_view c.deref-4.result.now) c.deref-5.result.now)
    c.as_slice-2.ensures
    ∙ ap (λ found. numbered_subject c.args.number columns shares found c.deref-5.result.now) atoms
    ∙ ap (numbered_subject c.args.number columns shares (numbered_atoms shares)) terms in
    subst (λ (subject : Subject). Checks (walk is_empty subject (g.C.Source.nodes c.args.cert.now) (Some []) 0)
    c.check_subject.result) same c.check_subject.ensures

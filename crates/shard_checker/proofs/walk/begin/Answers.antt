use Rattle.std.proofs.Common.{sym, subst}
use Rattle.filter_tree.specs.Paths.{path_view}
use Rattle.filter_tree.specs.Shape.{atoms_view}
use Rattle.shard_checker.specs.Claims.{AreWaiting}
use Rattle.shard_checker.specs.KnownAtoms.{IsKnown}
use Rattle.shard_checker.specs.Refusal.{subject_view}
use Rattle.shard_checker.specs.Remaining.{Remain}
use Rattle.shard_checker.specs.WalkInvariants.{candidates_of_table}
use Rattle.shard_checker.proofs.ClaimLemmas.{begun_waiting}
use Rattle.shard_checker.proofs.RemainingLemmas.{all_remain}
use Rattle.shard_checker.proofs.walk.begin.Goals as goal

pub returns-clause-ready : goal.returns-clause-ready
returns-clause-ready g c =
    let subject = c.args.subject.now in
    let candidates = candidates_of_table (subject_view subject) in
    record {
      prepared = c.requires;
      knows = subst (λ entries. IsKnown (atoms_view subject.atoms.now) c.in_ok-known.known (path_view entries))
          (sym c.new-3.ensures.items) c.in_ok-known.ensures;
      waiting = subst (λ atoms. AreWaiting atoms c.in_ok-claims.claims) c.deref.ensures.value
          (begun_waiting c.deref.result.now c.in_ok-claims.claims c.in_ok-claims.ensures);
      left = subst (λ entries. Remain candidates c.in_ok-new.field-0 (path_view entries)) (sym c.new-3.ensures.items)
          (all_remain candidates subject.candidates.now.count c.in_ok-new.field-0 c.requires.tried.count
          c.in_ok-new.ensures);
    }

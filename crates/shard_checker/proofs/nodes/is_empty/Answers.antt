use Rattle.std.proofs.Common.{arith}
use Rattle.shard_checker.specs.CandidateSets.{IsTermSet}
use Rattle.shard_checker.specs.WalkInvariants.{candidates_of_table}
use Rattle.filter_tree.specs.Paths.{path_view}
use Rattle.shard_checker.specs.Refusal.{subject_view}
use Rattle.shard_checker.proofs.TermLemmas.{empty_is_decided}
use Rattle.shard_checker.proofs.CandidateSetLemmas.{zip_long}
use Rattle.shard_checker.proofs.nodes.is_empty.Goals as goal

-- there is a set for each term
pub index-places-requires : goal.index-places-requires
index-places-requires g c =
    let subject = subject_view c.args.subject.now in
    let sets = c.args.subject.now.candidates.now in
    let long = zip_long (IsTermSet (candidates_of_table subject)) subject.terms sets.of_terms.items
    c.requires.agrees.prepared.tried.of_terms in
    omega (arith, long, c.requires.there)

pub returns : goal.returns
returns g c =
    let subject = c.args.subject.now in
    let walk = c.args.walk.now in
    empty_is_decided (subject_view subject) subject.formulas.now subject.candidates.now walk.known
    walk.claims walk.remaining (path_view walk.path.items) c.requires.agrees c.args.number c.index-places.result.now
    c.index-places.ensures c.meets.result c.meets.ensures

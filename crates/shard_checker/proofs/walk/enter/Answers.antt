use Rattle.std.proofs.Common.{◌<◌, length, ap, sym, subst, ◌∙◌, arith}
use Rattle.std.proofs.lemmas.Option.{slice_get_within}
use Rattle.filter_tree.specs.Shape.{atom_view}
use Rattle.shard_checker.specs.CandidateSets.{AreAtomSets}
use Rattle.shard_checker.specs.WalkInvariants.{candidates_of_table}
use Rattle.shard_checker.specs.Claims.{Records}
use Rattle.shard_checker.specs.Refusal.{subject_view}
use Rattle.shard_checker.specs.Steps.{mask_in}
use Rattle.shard_checker.proofs.ClaimLemmas.{recorded_due}
use Rattle.shard_checker.proofs.WalkInvariantLemmas.{ready_entered}
use Rattle.shard_checker.proofs.CandidateSetLemmas.{zip_long}
use Rattle.shard_checker.proofs.walk.enter.Goals as goal

-- there are sets for each atom
pub index-requires : goal.index-requires
index-requires g c =
    let subject = subject_view c.args.subject.now in
    let sets = c.args.subject.now.candidates.now in
    let long = zip_long (AreAtomSets (candidates_of_table subject)) subject.atoms sets.of_atoms.items
    c.requires.ready.prepared.tried.of_atoms in
    let within : c.args.number < length subject.atoms =
    slice_get_within subject.atoms c.args.number (atom_view c.in-Some.atom.now) (sym c.in-Some.ensures) in
    omega (arith, long, within)

-- what is known grows with the path
pub returns-in_ok-extend-in-Some-clause-ready : goal.returns-in_ok-extend-in-Some-clause-ready
returns-in_ok-extend-in-Some-clause-ready g c =
    let subject = c.args.subject.now in
    let walk = c.args.walk.now in
    ready_entered (subject_view subject) subject.formulas.now subject.candidates.now
    c.index.result.now walk.known c.learn.new.self walk.claims c.record.new.self walk.remaining c.keep.new.self
    walk.path.items c.extend.new.path.items c.args.number c.in-Some.atom c.args.value
    c.requires.ready c.in-Some.ensures c.in_ok-learn-in-Some.ensures c.in_ok-extend-in-Some.ensures
    (subst (λ mask. Records walk.claims c.record.new.self c.args.number mask)
    (c.mask_at-mask.ensures ∙ ap (λ masks. mask_in masks c.args.number) c.deref.ensures.value) c.record.ensures)
    c.index.ensures c.in_ok-keep-in-Some.ensures

-- what is wrong with the nodes that wait does not change
pub returns-in_ok-extend-in-Some-clause-same : goal.returns-in_ok-extend-in-Some-clause-same
returns-in_ok-extend-in-Some-clause-same g c =
    recorded_due (subject_view c.args.subject.now) c.args.subject.now.formulas.now c.args.walk.now.claims
    c.record.new.self c.args.number c.mask_at-mask.result c.record.ensures

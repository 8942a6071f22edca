use Rattle.shard_checker.specs.Refusal.{subject_view}
use Rattle.shard_checker.proofs.ClaimLemmas.{recorded_due}
use Rattle.shard_checker.proofs.WalkInvariantLemmas.{back_ready, goes_back}
use Rattle.shard_checker.proofs.walk.go_back.Goals as goal

-- what is known shrinks with the path
pub returns-clause-ready : goal.returns-clause-ready
returns-clause-ready g c =
    let subject = c.args.subject.now in
    let walk = c.args.walk.now in
    back_ready (subject_view subject) subject.formulas.now subject.candidates.now walk.known
    c.take_back.new.self walk.claims walk.remaining walk.path.items c.pop.new.self.items
    (c.in_ok-value.field-0-0, c.in_ok-value.value)
    c.requires c.in_ok-value.ensures.items c.in_ok-before.before c.record.new.self c.restore.new.self
    c.in_ok-before.ensures c.record.ensures c.restore.ensures

pub returns-clause-path : goal.returns-clause-path
returns-clause-path g c =
    let subject = c.args.subject.now in
    let walk = c.args.walk.now in
    goes_back (subject_view subject) subject.formulas.now subject.candidates.now walk.known
    c.take_back.new.self walk.claims walk.remaining walk.path.items c.pop.new.self.items
    (c.in_ok-value.field-0-0, c.in_ok-value.value)
    c.requires c.in_ok-value.ensures.items c.in_ok-before.before c.in_ok-before.ensures

-- what is wrong with the nodes that wait does not change
pub returns-clause-same : goal.returns-clause-same
returns-clause-same g c =
    recorded_due (subject_view c.args.subject.now) c.args.subject.now.formulas.now c.args.walk.now.claims
    c.record.new.self c.in_ok-before.before.number c.in_ok-before.before.mask c.record.ensures

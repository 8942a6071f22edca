use Rattle.filter_tree.specs.Paths.{path_view}
use Rattle.shard_checker.specs.Refusal.{subject_view}
use Rattle.shard_checker.proofs.WalkInvariantLemmas.{added_due}
use Rattle.shard_checker.proofs.walk.wait.Goals as goal

-- the node's refusal is due after those before it
pub returns-clause-due : goal.returns-clause-due
returns-clause-due g c =
    let subject = c.args.subject.now in
    let walk = c.args.walk.now in
    added_due (subject_view subject) subject.formulas.now subject.candidates.now walk.known walk.claims
    c.add.new.self walk.remaining (path_view walk.path.items) c.requires.ready c.requires.room walk.node
    c.args.number c.in_ok-add.ensures.list c.add.ensures.atoms

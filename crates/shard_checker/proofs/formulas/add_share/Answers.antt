use Rattle.filter_tree.specs.Shape.{atoms_view}
use Rattle.replica_identity.specs.Shares.{share_view}
use Rattle.shard_checker.proofs.StepLemmas.{filters_more}
use Rattle.shard_checker.proofs.formulas.add_share.Goals as goal

-- the share's filter is among the steps, and the others stay as they are
pub returns : goal.returns
returns g c = λ shares before.
    filters_more (atoms_view c.args.atoms.now) shares c.args.formulas.now
    (record { steps = c.compile_share.new.steps; roots = c.push.new.self }) c.in_ok-root.root
    (share_view c.args.share.now) before c.in_ok-root.ensures c.in_ok-push.ensures.items

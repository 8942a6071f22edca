use Rattle.split_cert.specs.Where.{tree_view}
use Rattle.shard_checker.specs.Owners.{shares_view}
use Rattle.shard_checker.proofs.AnyTest.{checks_by_any}
use Rattle.shard_checker.proofs.TellingLemmas.{checked_sound, checked_wrong}
use Rattle.shard_checker.proofs.one_table.check_one.Goals as goal

pub returns-clause-sound : goal.returns-clause-sound
returns-clause-sound g c =
    checked_sound 0 c.args.table.now (shares_view c.args.shares.now) (tree_view c.args.cert.now) c.check_tree.result
    c.check_tree.ensures

pub returns-clause-exact : goal.returns-clause-exact
returns-clause-exact g c =
    checks_by_any 0 c.args.table.now (shares_view c.args.shares.now) (tree_view c.args.cert.now) c.check_tree.result
    c.check_tree.ensures

pub returns-clause-wrong : goal.returns-clause-wrong
returns-clause-wrong g c =
    checked_wrong 0 c.args.table.now (shares_view c.args.shares.now) (tree_view c.args.cert.now) c.check_tree.result
    c.check_tree.ensures

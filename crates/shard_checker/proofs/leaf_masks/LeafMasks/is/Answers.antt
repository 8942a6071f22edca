use Rattle.std.proofs.Common.{ap, sym, ◌∙◌}
use Rattle.filter_tree.specs.Logic.{is_of}
use Rattle.filter_tree.specs.Mask.{lift_one}
use Rattle.shard_checker.specs.LeafMasks.{at_leaf}
use Rattle.shard_checker.proofs.LeafMaskLemmas.{is_true_at, is_false_at, is_null_at}
use Rattle.shard_checker.proofs.leaf_masks.LeafMasks.is.Goals as goal

pub returns-in-True : goal.returns-in-True
returns-in-True c = λ leaf. is_true_at leaf c.args.self
    ∙ ap (λ test. lift_one (is_of test) (at_leaf leaf c.args.self)) (sym c.in-True.is)

pub returns-in-False : goal.returns-in-False
returns-in-False c = λ leaf. is_false_at leaf c.args.self
    ∙ ap (λ test. lift_one (is_of test) (at_leaf leaf c.args.self)) (sym c.in-False.is)

pub returns-in-Unknown : goal.returns-in-Unknown
returns-in-Unknown c = λ leaf. is_null_at leaf c.args.self
    ∙ ap (λ test. lift_one (is_of test) (at_leaf leaf c.args.self)) (sym c.in-Unknown.is)

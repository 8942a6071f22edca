use Rattle.std.proofs.Common.{◌<◌, ◌≤◌, ap, ◌∙◌, length, map, arith}
use Rattle.std.specs.List.{list_any}
use Rattle.std.proofs.lemmas.List.{take_all, length-map}
use Rattle.filter_tree.specs.Values.{constant_view}
use Rattle.filter_tree.specs.declared.filter.Op.TheVariants.{Eq}
use Rattle.shard_checker.specs.Facts.{compares}
use Rattle.shard_checker.proofs.MemberLemmas.{member_more}
use Rattle.shard_checker.proofs.members.Members.of_list.Goals as goal

pub loop-constant-preserved : goal.loop-constant-preserved
loop-constant-preserved g c =
    let low : c.loop-constant.constant-index < length c.args.constants.now = omega arith in
    member_more c.args.constants.now c.loop-constant.constant-index c.constant-item.result low c.constant-item.is
    c.loop-constant.members c.add.new.self c.loop-constant.invariant c.in_ok-add.ensures

-- the constants so far are all
pub returns : goal.returns
returns g c = record {
  each = λ value.
      let constants = map constant_view c.args.constants.now in
      let far : length constants ≤ c.loop-constant.constant-index =
      omega (arith, length-map c.args.constants.now constant_view) in
      c.loop-constant.invariant value
      ∙ ap (list_any (compares Eq value)) (take_all c.loop-constant.constant-index constants far);
}

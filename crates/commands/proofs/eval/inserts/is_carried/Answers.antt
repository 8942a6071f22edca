use Rattle.commands.proofs.Answering.{knows_one}
use Rattle.commands.proofs.eval.inserts.is_carried.Goals as goal

pub carries-requires : goal.carries-requires
carries-requires c =
    knows_one c.args.carriers.now c.loop-number.number c.index-carriers-number.result c.args.row.now c.args.memo.now
    c.args.said c.loop-number-test.true c.index-carriers-number.is c.requires

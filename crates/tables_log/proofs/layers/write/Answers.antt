use Rattle.std.proofs.Common.{Some}
use Rattle.tables_log.proofs.LayerLemmas.{below_after, stay_after, writes}
use Rattle.tables_log.proofs.layers.write.Goals as goal

pub returns-clause-puts : goal.returns-clause-puts
returns-clause-puts g c =
    below_after g.K.Ord.cmp c.args.base.now c.insert.new.self c.args.key (Some c.args.value)
    (writes g.K.Ord.cmp c.args.base.now c.insert.new.self c.args.key c.args.value c.insert.result
    c.insert.ensures.updates c.insert.ensures.absent c.requires)

pub returns-clause-stay : goal.returns-clause-stay
returns-clause-stay g c =
    stay_after g.met.K.Ord.total c.args.base.now c.insert.new.self c.args.key c.args.value
    (writes g.K.Ord.cmp c.args.base.now c.insert.new.self c.args.key c.args.value c.insert.result
    c.insert.ensures.updates c.insert.ensures.absent c.requires)

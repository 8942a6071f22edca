use Rattle.std.proofs.Common.{get_or, refl}
use Rattle.pgoutput_msgs.proofs.SinkLemmas.{none_introduced, more_introduced, all_taken, all_flags}
use Rattle.pgoutput_msgs.proofs.saying.say_relations.Goals as goal

pub loop-number-init : goal.loop-number-init
loop-number-init g c =
    none_introduced g.S.MessageSink.takes_one c.args.sink.now c.args.tables.now c.args.relation_sent.now
    c.args.numbers.now

pub loop-number-preserved : goal.loop-number-preserved
loop-number-preserved g c =
    more_introduced g.S.MessageSink.takes_one c.args.sink.now c.loop-number.sink c.say_relation.new.sink
    c.args.tables.now c.args.relation_sent.now c.loop-number.relation_sent c.mark.new.relation_sent
    c.args.numbers.now c.loop-number.number-index (get_or c.args.numbers.now c.loop-number.number-index 0) refl
    c.loop-number-test.true
    c.in_ok-say_relation.ensures c.mark.ensures c.loop-number.invariant

pub returns-clause-said : goal.returns-clause-said
returns-clause-said g c =
    all_taken g.S.MessageSink.takes_one c.args.sink.now c.loop-number.sink c.args.tables.now c.args.relation_sent.now
    c.loop-number.relation_sent c.args.numbers.now c.loop-number.number-index
    c.loop-number-test.false c.loop-number.invariant

pub returns-clause-relation_sent : goal.returns-clause-relation_sent
returns-clause-relation_sent g c =
    all_flags g.S.MessageSink.takes_one c.args.sink.now c.loop-number.sink c.args.tables.now c.args.relation_sent.now
    c.loop-number.relation_sent c.args.numbers.now c.loop-number.number-index
    c.loop-number-test.false c.loop-number.invariant

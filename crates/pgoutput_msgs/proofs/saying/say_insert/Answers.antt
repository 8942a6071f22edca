use Rattle.table_changes.specs.Records as r
use Rattle.pgoutput_msgs.proofs.SinkLemmas.{takes_said}
use Rattle.pgoutput_msgs.proofs.saying.say_insert.Goals as goal

pub returns-clause-said : goal.returns-clause-said
returns-clause-said g c =
    takes_said g.S.MessageSink.takes_one c.args.sink.now c.say_relations.new.sink c.insert.new.self c.args.tables.now
    c.args.relation_sent.now (r.Insert c.args.table c.args.new.now)
    c.in_ok-say_relations.ensures.said c.in_ok-insert.ensures

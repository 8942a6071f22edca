use Rattle.replica_identity.specs.ChangeView.{part_view}
use Rattle.table_changes.specs.Records as r
use Rattle.pgoutput_msgs.proofs.SinkLemmas.{takes_said}
use Rattle.pgoutput_msgs.proofs.saying.say_update.Goals as goal

pub returns-clause-said : goal.returns-clause-said
returns-clause-said g c =
    takes_said g.S.MessageSink.takes_one c.args.sink.now c.say_relations.new.sink c.update.new.self c.args.tables.now
    c.args.relation_sent.now (r.Update c.args.table (part_view c.args.old.now) c.args.new.now)
    c.in_ok-say_relations.ensures.said c.in_ok-update.ensures

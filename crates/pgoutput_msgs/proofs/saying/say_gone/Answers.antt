use Rattle.replica_identity.specs.ChangeView.{part_view}
use Rattle.table_changes.specs.Records as r
use Rattle.pgoutput_msgs.proofs.SinkLemmas.{takes_named, marked_named}
use Rattle.pgoutput_msgs.proofs.saying.say_gone.Goals as goal

pub returns-clause-said : goal.returns-clause-said
returns-clause-said g c =
    takes_named g.S.MessageSink.takes_one c.args.sink.now c.say_relations.new.sink c.delete.new.self c.args.tables.now
    c.args.relation_sent.now c.args.table
    (r.Delete c.args.table (part_view c.args.old.now)) c.requires.recorded c.in_ok-say_relations.ensures.said
    c.in_ok-delete.ensures

pub returns-clause-relation_sent : goal.returns-clause-relation_sent
returns-clause-relation_sent g c =
    marked_named c.args.relation_sent.now c.say_relations.new.relation_sent c.args.table
    (r.Delete c.args.table (part_view c.args.old.now)) c.requires.recorded c.in_ok-say_relations.ensures.relation_sent

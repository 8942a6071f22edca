use Rattle.std.proofs.Common.{◌≡◌, None, rules}
use Rattle.replica_identity.specs.ChangeView.{part_view}
use Rattle.pgoutput_msgs.proofs.SinkLemmas.{nothing_deleted, nothing_marked_deleted}
use Rattle.pgoutput_msgs.proofs.saying.say_delete.Goals as goal

pub returns-in-None-clause-said : goal.returns-in-None-clause-said
returns-in-None-clause-said g c =
    let none : part_view c.args.old.now ≡ None = search rules in
    nothing_deleted g.S.MessageSink.takes_one c.args.sink.now c.args.tables.now c.args.relation_sent.now c.args.table
    (part_view c.args.old.now) none

pub returns-in-None-clause-relation_sent : goal.returns-in-None-clause-relation_sent
returns-in-None-clause-relation_sent g c =
    let none : part_view c.args.old.now ≡ None = search rules in
    nothing_marked_deleted c.args.relation_sent.now c.args.table (part_view c.args.old.now) none

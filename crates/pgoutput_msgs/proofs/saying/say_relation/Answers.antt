use Rattle.std.proofs.Common.{◌≡◌, true, false, rules}
use Rattle.std.specs.Prelude.{slice_index_or}
use Rattle.pgoutput_msgs.proofs.SinkLemmas.{was_announced, was_not_announced}
use Rattle.pgoutput_msgs.proofs.saying.say_relation.Goals as goal

pub returns-then-is_announced : goal.returns-then-is_announced
returns-then-is_announced g c =
    let is : true ≡ slice_index_or c.args.relation_sent.now c.args.number false = search rules in
    was_announced g.S.MessageSink.takes_one c.args.sink.now c.args.tables.now c.args.relation_sent.now c.args.number is

pub returns : goal.returns
returns g c =
    let is : false ≡ slice_index_or c.args.relation_sent.now c.args.number false = search rules in
    was_not_announced g.S.MessageSink.takes_one c.args.sink.now c.say_new_relation.new.sink c.args.tables.now
    c.args.relation_sent.now c.args.number is c.in_ok-say_new_relation.ensures

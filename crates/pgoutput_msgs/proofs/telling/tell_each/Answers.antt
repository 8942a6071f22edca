use Rattle.std.proofs.Common.{◌+◌}
use Rattle.shard_checker.specs.CheckedView.{checked_view}
use Rattle.pgoutput_msgs.proofs.SinkLemmas.{none_said, more_said, all_changes_taken, all_changes_marked}
use Rattle.pgoutput_msgs.proofs.SparedLemmas.{all_passed}
use Rattle.pgoutput_msgs.proofs.TellingLemmas.{sendable_change}
use Rattle.pgoutput_msgs.proofs.telling.tell_each.Goals as goal

pub loop-place-init : goal.loop-place-init
loop-place-init g c =
    all_passed g.S.MessageSink.takes_one c.args.sink.now c.args.sink.now (checked_view c.args.checked.now)
    c.args.subscriber c.args.relation_sent.now c.args.relation_sent.now c.args.changes.now c.args.owners.now
    0 c.next_of-place.result c.requires.owners c.next_of-place.ensures.onward c.next_of-place.ensures.spared
    (none_said g.S.MessageSink.takes_one c.args.sink.now (checked_view c.args.checked.now) c.args.subscriber
    c.args.relation_sent.now c.args.changes.now)

pub tell_change-requires : goal.tell_change-requires
tell_change-requires g c =
    sendable_change c.args.changes.now c.loop-place.place c.index-changes-place.result c.requires.sendable
    c.index-changes-place.is c.loop-place-test.true

pub loop-place-preserved : goal.loop-place-preserved
loop-place-preserved g c =
    all_passed g.S.MessageSink.takes_one c.args.sink.now c.tell_change.new.sink (checked_view c.args.checked.now)
    c.args.subscriber c.args.relation_sent.now c.tell_change.new.relation_sent c.args.changes.now c.args.owners.now
    (c.loop-place.place + 1) c.next_of-place-in-loop-place.result c.requires.owners
    c.next_of-place-in-loop-place.ensures.onward c.next_of-place-in-loop-place.ensures.spared
    (more_said g.S.MessageSink.takes_one c.args.sink.now c.loop-place.sink c.tell_change.new.sink
    (checked_view c.args.checked.now) c.args.subscriber c.args.relation_sent.now
    c.loop-place.relation_sent c.tell_change.new.relation_sent c.args.changes.now c.loop-place.place
    c.index-changes-place.result c.index-changes-place.is
    c.loop-place-test.true c.in_ok-tell_change.ensures.said c.in_ok-tell_change.ensures.relation_sent
    c.loop-place.invariant)

pub returns-clause-said : goal.returns-clause-said
returns-clause-said g c =
    all_changes_taken g.S.MessageSink.takes_one c.args.sink.now c.loop-place.sink (checked_view c.args.checked.now)
    c.args.subscriber c.args.relation_sent.now c.loop-place.relation_sent
    c.args.changes.now c.loop-place.place c.loop-place-test.false c.loop-place.invariant

pub returns-clause-relation_sent : goal.returns-clause-relation_sent
returns-clause-relation_sent g c =
    all_changes_marked g.S.MessageSink.takes_one c.args.sink.now c.loop-place.sink (checked_view c.args.checked.now)
    c.args.subscriber c.args.relation_sent.now c.loop-place.relation_sent
    c.args.changes.now c.loop-place.place c.loop-place-test.false c.loop-place.invariant

use Rattle.std.proofs.Common.{length, drop, ◌-◌}
use Rattle.shard_checker.specs.CheckedView.{checked_view}
use Rattle.pgoutput_msgs.proofs.SinkLemmas.{Said}
use Rattle.pgoutput_msgs.proofs.telling.tell_each.Given as goal

abbrev pub invariant-loop-place : goal.invariant-loop-place
invariant-loop-place g l =
    Said g.S.MessageSink.takes_one
    (checked_view l.checked) l.subscriber l.fn.relation_sent l.relation_sent l.fn.sink l.sink l.changes
    (drop l.place l.changes)

abbrev pub decreases-loop-place : goal.decreases-loop-place
decreases-loop-place g l = length l.changes - l.place

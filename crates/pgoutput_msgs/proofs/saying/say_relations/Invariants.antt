use Rattle.std.proofs.Common.{drop}
use Rattle.pgoutput_msgs.proofs.SinkLemmas.{Introduced}
use Rattle.pgoutput_msgs.proofs.saying.say_relations.Given as goal

abbrev pub invariant-loop-number : goal.invariant-loop-number
invariant-loop-number g l =
    Introduced g.S.MessageSink.takes_one l.tables l.fn.relation_sent l.relation_sent l.fn.sink l.sink l.numbers
    (drop l.number-index l.numbers)

use Rattle.std.proofs.Common.{length}
use Rattle.split_cert.specs.Nodes.{nodes_in}
use Rattle.shard_checker.specs.WalkInvariants.{WalkAgrees}
use Rattle.shard_checker.specs.Refusal.{subject_view}
use Rattle.shard_checker.specs.Candidates.{is_empty}
use Rattle.shard_checker.specs.Walking.{Passes, place_of}
use Rattle.shard_checker.proofs.walk.visit_text.Given as goal

-- the text's nodes are refused just as the nodes that are left are refused from here
abbrev pub invariant-loop-node : goal.invariant-loop-node
invariant-loop-node g l = record {
  passes : Passes is_empty (subject_view l.subject) (nodes_in l.text).nodes (place_of l.subject l.fn.walk)
      l.reader.nodes (place_of l.subject l.walk);
  ready : WalkAgrees l.subject l.walk;
}

abbrev pub decreases-loop-node : goal.decreases-loop-node
decreases-loop-node g l = length l.reader.nodes

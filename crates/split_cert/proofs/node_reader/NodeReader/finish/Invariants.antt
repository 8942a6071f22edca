use Rattle.std.proofs.Common.{◌≡◌, length}
use Rattle.split_cert.proofs.node_reader.NodeReader.finish.Given as goal

-- what comes after the nodes that are left is what came after all
abbrev pub invariant-loop : goal.invariant-loop
invariant-loop l = l.self.end ≡ l.fn.self.end

abbrev pub decreases-loop : goal.decreases-loop
decreases-loop l = length l.self.nodes

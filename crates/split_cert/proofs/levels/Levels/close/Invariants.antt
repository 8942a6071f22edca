use Rattle.std.proofs.Common.{◌≡◌, length}
use Rattle.split_cert.specs.Nodes.{without_done}
use Rattle.split_cert.proofs.levels.Levels.close.Given as goal

-- without the splits that are done, what is left and the whole are the same
abbrev pub invariant-loop-self : goal.invariant-loop-self
invariant-loop-self l = without_done l.self ≡ without_done l.fn.self

abbrev pub decreases-loop-self : goal.decreases-loop-self
decreases-loop-self l = length l.self

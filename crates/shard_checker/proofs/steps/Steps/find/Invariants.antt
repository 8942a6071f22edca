use Rattle.shard_checker.proofs.steps.Steps.find.Given as goal

-- numbers decrease
abbrev pub decreases-loop-number : goal.decreases-loop-number
decreases-loop-number l = l.number

use Rattle.std.proofs.Common.{Bor, map, take}
use Rattle.senders.specs.Results.{ServedOf}
use Rattle.senders.proofs.ReachLemmas.{AreReachedTo}
use Rattle.senders.proofs.reaching.reach_in.Given as goal

abbrev pub invariant-loop-one : goal.invariant-loop-one
invariant-loop-one g l =
    AreReachedTo l.slot l.reach (take l.one-index (map (λ (one : Bor ServedOf). one.now) l.starts))

use Rattle.std.proofs.Common.{◌≡◌, ◌++◌, Bor, drop, map}
use Rattle.senders.specs.Reached.{started_in}
use Rattle.senders.specs.Results.{ServedOf}
use Rattle.senders.proofs.reaching.starts_in.Given as goal

abbrev pub invariant-loop-one : goal.invariant-loop-one
invariant-loop-one g l =
    map (λ (one : Bor ServedOf). one.now) l.starts.items ++ started_in (drop l.one-index l.served)
    ≡ started_in l.served

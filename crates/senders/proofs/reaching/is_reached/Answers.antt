use Rattle.std.proofs.Common.{Bor, map}
use Rattle.senders.specs.Reached.{IsReached}
use Rattle.senders.specs.Results.{ServedOf}
use Rattle.senders.proofs.ResumeLemmas.{found_so}
use Rattle.senders.proofs.reaching.is_reached.Goals as goal

pub returns : goal.returns
returns g c =
    found_so (IsReached (map (λ (one : Bor ServedOf). one.now) c.args.starts.now) c.args.slot) c.reach_in.result
    c.is_some.result c.is_some.ensures c.reach_in.ensures.reached c.reach_in.ensures.late

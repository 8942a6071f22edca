use Rattle.std.proofs.Common.{◌≡◌, ◌+◌, Bor, drop, map}
use Rattle.std.specs.List.{range_with_len}
use Rattle.senders.specs.Reached.{numbers_in}
use Rattle.senders.specs.Results.{ServedOf}
use Rattle.senders.proofs.ReachLemmas.{CountsUp}
use Rattle.senders.proofs.reaching.are_numbered.Given as goal

abbrev pub invariant-loop-one : goal.invariant-loop-one
invariant-loop-one g l = (l.next ≡ l.one-index + 1)
    × CountsUp (numbers_in (map (λ (one : Bor ServedOf). one.now) l.starts) ≡ range_with_len 1 l.count) l.next
    (numbers_in (map (λ (one : Bor ServedOf). one.now) (drop l.one-index l.starts)))

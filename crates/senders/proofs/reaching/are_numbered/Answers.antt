use Rattle.std.proofs.Common.{Bor, map, arith}
use Rattle.std.proofs.lemmas.List.{length-map}
use Rattle.senders.specs.Results.{ServedOf}
use Rattle.senders.proofs.ReachLemmas.{long_count}
use Rattle.senders.proofs.reaching.are_numbered.Goals as goal

pub returns-then-starts-count : goal.returns-then-starts-count
returns-then-starts-count g c = λ same.
    c.if-starts-count.true
    (let all = long_count (map (λ (one : Bor ServedOf). one.now) c.args.starts.now) c.args.count same in
    let shown = length-map c.args.starts.now (λ (one : Bor ServedOf). one.now) in omega (arith, all, shown))

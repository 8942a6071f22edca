use Rattle.std.proofs.Common.{subst, sym}
use Rattle.shard_world.specs.PeerCalls.{LosesIfThere}
use Rattle.shard_world.proofs.peer.lose_link.Goals as goal

pub returns-in-Some : goal.returns-in-Some
returns-in-Some c = subst (λ link. LosesIfThere link c.args.book.now c.lose.new.book) (sym c.in-Some.is)
    (record { lost = c.lose.new.self; loses = c.lose.ensures })

use Rattle.std.proofs.Common.{◌≡◌, ap, length, refl, sym, ◌∙◌}
use Rattle.std.specs.Prelude.{Some, slice_get}
use Rattle.std.proofs.lemmas.Option.{slice_get_read}
use Rattle.shard_world.specs.WorldCalls.{world_peers}
use Rattle.shard_world.proofs.ViewLemmas.{position_shown}
use Rattle.shard_world.proofs.world.World.position.Goals as goal

pub returns-in-Some : goal.returns-in-Some
returns-in-Some c there most events world is =
    let peers = c.deref.result.now in
    let found = c.in-Some.ensures.lookup in
    let read : slice_get peers c.args.subscriber ≡ Some c.in-Some.peer.now =
    slice_get_read peers (length peers) c.args.subscriber c.in-Some.peer.now refl found.3.0 found.1 in
    let at : slice_get (world_peers c.args.self.now) c.args.subscriber ≡ Some c.in-Some.peer.now =
    ap (λ its. slice_get its c.args.subscriber) (sym c.deref.ensures.value) ∙ read in
    c.new.ensures ∙ c.position.ensures ∙ position_shown c.args.self.now c.args.subscriber c.in-Some.peer.now at there
    most events world is

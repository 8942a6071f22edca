use Rattle.std.proofs.Common.{◌≡◌, refl}
use Rattle.std.specs.Prelude.{Some, slice_get}
use Rattle.std.specs.Vec.{with_item}
use Rattle.std.proofs.lemmas.Option.{slice_get_read}
use Rattle.shard_world.specs.WorldCalls.{world_checked, world_peers}
use Rattle.shard_world.proofs.LinkedLemmas.{one_is_linked}
use Rattle.shard_world.proofs.WorldMoves.{moves_one}
use Rattle.shard_world.proofs.world.World.on.Goals as goal

pub returns-in-Some-clause-steps : goal.returns-in-Some-clause-steps
returns-in-Some-clause-steps c =
    let code = c.args.self.now in
    let at : slice_get (world_peers code) c.args.subscriber ≡ Some c.in-Some.peer.now =
    slice_get_read code.peers.items code.peers.len c.args.subscriber c.in-Some.peer.now code.peers.ok.0
    (c.in-Some.ensures.variant.0 refl) c.in-Some.ensures.value in
    moves_one code (record {
      alloc = code.alloc;
      checked = code.checked;
      book = c.step.new.book;
      peers =
          with_item code.peers c.args.subscriber c.step.new.self;
      published = _;
      linked = _;
    }) refl
    c.args.subscriber c.args.now c.args.event c.in-Some.peer.now c.step.new.self c.step.result c.ranges.now.fits at
    refl c.step.ensures.moves

pub invariant_of-self : goal.invariant_of-self
invariant_of-self c =
    record {
      published = c.step.ensures.book;
      linked =
          one_is_linked (world_checked c.args.self.now) (world_peers c.args.self.now) c.args.subscriber
          c.step.new.self c.args.self.now.linked c.step.ensures.linked;
    }

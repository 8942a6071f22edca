use Rattle.std.proofs.Common.{refl}
use Rattle.publisher_desk.specs.Sights.{sight_of}
use Rattle.publisher_desk.specs.SlotSights.{slot_sight_of}
use Rattle.publisher_desk.proofs.StreamLemmas.{used_accepted, used_has, used_if, used_more, used_owns}
use Rattle.publisher_desk.proofs.publisher.Publisher.with_stream.Goals as goal

pub invariant_of-viewer : goal.invariant_of-viewer
invariant_of-viewer g c = (
  used_has g.U.StreamTask.did g.P.Publishing.checked c.args.user.now c.with_stream-answer.new.user
      (sight_of c.viewer.inside.token) (sight_of c.with_stream-answer.new.token) (slot_sight_of c.viewer.inside.slots)
      (slot_sight_of c.with_stream-answer.new.slots) c.with_stream-answer.result c.with_stream-answer.ensures.used
      c.viewer.invariant.0,
  used_owns g.U.StreamTask.did g.P.Publishing.checked c.args.user.now c.with_stream-answer.new.user
      (sight_of c.viewer.inside.token) (sight_of c.with_stream-answer.new.token) (slot_sight_of c.viewer.inside.slots)
      (slot_sight_of c.with_stream-answer.new.slots) c.with_stream-answer.result c.with_stream-answer.ensures.used
      c.viewer.invariant.1,
  used_accepted g.U.StreamTask.did g.P.Publishing.checked c.args.user.now c.with_stream-answer.new.user
      (sight_of c.viewer.inside.token) (sight_of c.with_stream-answer.new.token) (slot_sight_of c.viewer.inside.slots)
      (slot_sight_of c.with_stream-answer.new.slots) c.args.viewer.now _ c.viewer.view_is refl
      c.with_stream-answer.result c.with_stream-answer.ensures.used c.viewer.invariant.2,
)

pub returns-clause-used : goal.returns-clause-used
returns-clause-used g c =
    used_if g.U.StreamTask.did g.P.Publishing.checked c.args.user.now c.with_stream-answer.new.user
    (sight_of c.viewer.inside.token) (sight_of c.with_stream-answer.new.token) (slot_sight_of c.viewer.inside.slots)
    (slot_sight_of c.with_stream-answer.new.slots) c.args.viewer.now _ c.viewer.view_is refl
    c.with_stream-answer.result c.with_stream-answer.ensures.used

pub returns-clause-more : goal.returns-clause-more
returns-clause-more g c =
    used_more g.U.StreamTask.did g.P.Publishing.checked c.args.user.now c.with_stream-answer.new.user
    (sight_of c.viewer.inside.token) (sight_of c.with_stream-answer.new.token) (slot_sight_of c.viewer.inside.slots)
    (slot_sight_of c.with_stream-answer.new.slots) c.args.viewer.now _ c.viewer.view_is refl
    c.with_stream-answer.result c.with_stream-answer.ensures.used

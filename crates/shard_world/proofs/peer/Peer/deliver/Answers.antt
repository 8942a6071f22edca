use Rattle.std.proofs.Common.{ap, refl, ◌∙◌, arith, rules}
use Rattle.std.specs.Prelude.{Some}
use Rattle.copy_both.proofs.RepliesLemmas.{on_err}
use Rattle.shard_world.specs.Connections.{front_of}
use Rattle.shard_world.specs.PeerCalls.{StopsFromEach}
use Rattle.shard_world.specs.World.{Deliver}
use Rattle.shard_world.proofs.CallLemmas.{delivers_none, delivers_piece}
use Rattle.shard_world.proofs.LinkedLemmas.{keeps_link}
use Rattle.shard_world.proofs.StopLemmas.{deliver_stops}
use Rattle.shard_world.proofs.peer.Peer.deliver.Goals as goal

pub returns-then-count-eq0 : goal.returns-then-count-eq0
returns-then-count-eq0 c checked now book = record {
  made =
      delivers_none checked now book c.args.self.now c.in-Some.link c.args.bytes
      c.front-piece.result.now c.in-Some.is (c.front-piece.ensures ∙ ap (front_of c.args.bytes) c.output.ensures)
      c.if-count-eq0.true;
  counted = omega arith;
  stops = tt;
  book = refl;
  linked =
      keeps_link checked c.args.self.now c.in-Some.link c.in-Some.link c.args.self.now.subscriber c.in-Some.is refl;
}

pub returns : goal.returns
returns c checked now book = record {
  made =
      delivers_piece checked now book c.args.self.now c.in-Some.link c.passed.new.self c.feed.new.self c.args.bytes
      c.front-piece.result.now c.in-Some.is
      (c.front-piece.ensures ∙ ap (front_of c.args.bytes) c.output.ensures) c.in_ok-feed.ensures.ok c.passed.ensures;
  counted = omega arith;
  stops = tt;
  book = refl;
  linked =
      keeps_link checked c.args.self.now c.in-Some.link c.passed.new.self c.feed.new.self c.in-Some.is
      c.passed.ensures.voice.checked;
}

pub returns-in_err-feed : goal.returns-in_err-feed
returns-in_err-feed c checked now book = record {
  made = search rules;
  counted = search rules;
  stops =
      on_err c.from_residual.result
      (StopsFromEach checked now (Deliver c.args.bytes) book book c.args.self.now
      (record { link = Some c.in-Some.link; subscriber = c.feed.new.self }))
      (deliver_stops checked now book c.args.self.now c.in-Some.link c.feed.new.self c.args.bytes
      c.in_err-feed.field-0.0 c.front-piece.result.now c.in-Some.is
      (c.front-piece.ensures ∙ ap (front_of c.args.bytes) c.output.ensures)
      (omega (arith, c.if-count-eq0.false)) c.in_err-feed.ensures.stops);
  book = refl;
  linked = keeps_link checked c.args.self.now c.in-Some.link c.in-Some.link c.feed.new.self c.in-Some.is refl;
}

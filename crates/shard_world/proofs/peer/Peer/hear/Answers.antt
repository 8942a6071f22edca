use Rattle.std.proofs.Common.{ap, refl, ◌∙◌, arith, rules}
use Rattle.std.specs.Prelude.{Err, Ok, Some}
use Rattle.copy_both.specs.Links.{link_heard, link_sent}
use Rattle.copy_both.proofs.RepliesLemmas.{on_err}
use Rattle.shard_world.specs.Connections.{front_of}
use Rattle.shard_world.specs.PeerCalls.{StopsFromEach}
use Rattle.shard_world.specs.World.{Hear}
use Rattle.shard_world.proofs.CallLemmas.{hears_none, hears_piece}
use Rattle.shard_world.proofs.LinkedLemmas.{hear_keeps_book, hear_keeps_link, keeps_link}
use Rattle.shard_world.proofs.StopLemmas.{hear_stops}
use Rattle.shard_world.proofs.peer.Peer.hear.Goals as goal

pub returns-then-count-eq0 : goal.returns-then-count-eq0
returns-then-count-eq0 c checked = record {
  made =
      hears_none checked c.args.now c.args.book.now c.args.self.now c.in-Some.link c.args.bytes
      c.front-piece.result.now c.in-Some.is (c.front-piece.ensures ∙ ap (front_of c.args.bytes) c.output.ensures)
      c.if-count-eq0.true;
  counted = omega arith;
  stops = tt;
  book = refl;
  linked =
      keeps_link checked c.args.self.now c.in-Some.link c.in-Some.link c.args.self.now.subscriber c.in-Some.is refl;
}

pub returns : goal.returns
returns c checked = record {
  made =
      hears_piece checked c.args.now c.args.book.now c.hear.new.book c.args.self.now c.in-Some.link c.hear.new.self
      c.passed.new.self c.args.bytes c.in_ok-hear.field-0
      c.front-piece.result.now c.in-Some.is (c.front-piece.ensures ∙ ap (front_of c.args.bytes) c.output.ensures)
      c.in_ok-hear.ensures.answer c.in_ok-hear.ensures.left
      c.in_ok-hear.ensures.says c.passed.ensures;
  counted = omega arith;
  stops = tt;
  book =
      hear_keeps_book c.in-Some.link c.hear.new.self c.args.book.now c.hear.new.book c.front-piece.result.now
      (link_sent c.in-Some.link) (Ok c.in_ok-hear.field-0) c.in_ok-hear.ensures.left;
  linked =
      keeps_link checked c.args.self.now c.in-Some.link c.hear.new.self c.passed.new.self c.in-Some.is
      (hear_keeps_link c.in-Some.link c.hear.new.self
      (link_heard c.in-Some.link c.args.book.now c.front-piece.result.now) c.args.now (Ok c.in_ok-hear.field-0) c.in_ok-hear.ensures.says);
}

pub returns-in_err-hear : goal.returns-in_err-hear
returns-in_err-hear c checked = record {
  made = search rules;
  counted = search rules;
  stops =
      on_err c.from_residual.result
      (StopsFromEach checked c.args.now (Hear c.args.bytes) c.args.book.now c.hear.new.book c.args.self.now
      (record { link = Some c.hear.new.self; subscriber = c.args.self.now.subscriber }))
      (hear_stops checked c.args.now c.args.book.now c.hear.new.book c.args.self.now c.in-Some.link
      c.hear.new.self c.args.bytes c.in_err-hear.field-0.0
      c.front-piece.result.now c.in-Some.is (c.front-piece.ensures ∙ ap (front_of c.args.bytes) c.output.ensures)
      (omega (arith, c.if-count-eq0.false))
      c.in_err-hear.ensures.answer c.in_err-hear.ensures.left);
  book =
      hear_keeps_book c.in-Some.link c.hear.new.self c.args.book.now c.hear.new.book c.front-piece.result.now
      (link_sent c.in-Some.link) (Err c.in_err-hear.field-0.0) c.in_err-hear.ensures.left;
  linked =
      keeps_link checked c.args.self.now c.in-Some.link c.hear.new.self c.args.self.now.subscriber c.in-Some.is
      (hear_keeps_link c.in-Some.link c.hear.new.self
      (link_heard c.in-Some.link c.args.book.now c.front-piece.result.now) c.args.now (Err c.in_err-hear.field-0.0) c.in_err-hear.ensures.says);
}

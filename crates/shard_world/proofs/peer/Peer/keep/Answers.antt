use Rattle.std.proofs.Common.{refl, sym, subst}
use Rattle.std.specs.Prelude.{Some}
use Rattle.shard_world.specs.Connections.{kept_or_not}
use Rattle.shard_world.specs.PeerCalls.{MakesFrom}
use Rattle.shard_world.specs.World.{Keep}
use Rattle.shard_world.proofs.CallLemmas.{keeps_one}
use Rattle.shard_world.proofs.LinkedLemmas.{keeps_link}
use Rattle.shard_world.proofs.peer.Peer.keep.Goals as goal

pub returns-then-branch : goal.returns-then-branch
returns-then-branch c checked book = record {
  made = λ case stands.
      subst (λ said. MakesFrom case (Keep c.args.want) (kept_or_not said) book book
      (record { link = Some c.keepalive.new.self; subscriber = c.args.self.now.subscriber })) c.if-branch.true
      (keeps_one checked c.args.now book c.args.self.now c.in-Some.link c.keepalive.new.self c.args.want
      c.in_ok-keepalive.field-0 c.in-Some.is (sym c.in_ok-keepalive.ensures.answer)
      c.in_ok-keepalive.ensures.ok case stands);
  counted = tt;
  stops = tt;
  book = refl;
  linked =
      keeps_link checked c.args.self.now c.in-Some.link c.keepalive.new.self c.args.self.now.subscriber c.in-Some.is
      c.in_ok-keepalive.ensures.ok.voice.checked;
}

pub returns-else-branch : goal.returns-else-branch
returns-else-branch c checked book = record {
  made = λ case stands.
      subst (λ said. MakesFrom case (Keep c.args.want) (kept_or_not said) book book
      (record { link = Some c.keepalive.new.self; subscriber = c.args.self.now.subscriber })) c.if-branch.false
      (keeps_one checked c.args.now book c.args.self.now c.in-Some.link c.keepalive.new.self c.args.want
      c.in_ok-keepalive.field-0 c.in-Some.is (sym c.in_ok-keepalive.ensures.answer)
      c.in_ok-keepalive.ensures.ok case stands);
  counted = tt;
  stops = tt;
  book = refl;
  linked =
      keeps_link checked c.args.self.now c.in-Some.link c.keepalive.new.self c.args.self.now.subscriber c.in-Some.is
      c.in_ok-keepalive.ensures.ok.voice.checked;
}

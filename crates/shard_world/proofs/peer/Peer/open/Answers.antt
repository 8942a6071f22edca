use Rattle.std.proofs.Common.{refl, sym, ◌∙◌, rules}
use Rattle.std.specs.Arc.{arc_value}
use Rattle.shard_checker.specs.CheckedView.{checked_view}
use Rattle.copy_both.proofs.RepliesLemmas.{on_err}
use Rattle.shard_world.specs.PeerCalls.{StopsFromEach}
use Rattle.shard_world.specs.World.{Open}
use Rattle.shard_world.proofs.CallLemmas.{none_is}
use Rattle.shard_world.proofs.StopLemmas.{open_is_refused}
use Rattle.shard_world.proofs.peer.Peer.open.Goals as goal

pub returns-in_err-open : goal.returns-in_err-open
returns-in_err-open c now book = record {
  made = search rules;
  counted = search rules;
  stops =
      on_err c.from_residual-in_err-open.result
      (StopsFromEach (checked_view (arc_value c.args.checked.now)) now Open book book c.args.self.now
      (record { link = c.args.self.now.link; subscriber = c.open.new.self }))
      (open_is_refused (checked_view (arc_value c.args.checked.now)) now book c.args.self.now
      c.open.new.self (none_is c.args.self.now.link (sym c.is_some.ensures ∙ c.if-is_some.false))
      c.in_err-open.ensures.lost);
  book = refl;
  linked = λ linked. linked;
}

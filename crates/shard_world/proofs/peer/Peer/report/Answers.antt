use Rattle.std.proofs.Common.{refl, rules}
use Rattle.copy_both.proofs.RepliesLemmas.{on_err}
use Rattle.shard_world.specs.PeerCalls.{StopsFromEach}
use Rattle.shard_world.specs.World.{Report}
use Rattle.shard_world.proofs.StopLemmas.{report_stops_so}
use Rattle.shard_world.proofs.peer.Peer.report.Goals as goal

pub returns-in_err-status : goal.returns-in_err-status
returns-in_err-status c checked book = record {
  made = search rules;
  counted = search rules;
  stops =
      on_err c.from_residual.result
      (StopsFromEach checked c.args.now (Report c.args.want) book book c.args.self.now
      (record { link = c.args.self.now.link; subscriber = c.status.new.self }))
      (report_stops_so checked c.args.now book c.args.self.now c.status.new.self c.args.want c.if-is_none.ensures
      c.in_err-status.ensures.lost);
  book = refl;
  linked = search rules;
}

use Rattle.std.proofs.Common.{ap, not, ◌∙◌}
use Rattle.shard_world.proofs.CallLemmas.{drops_lose_so}
use Rattle.shard_world.proofs.LinkedLemmas.{drop_keeps_book, is_unlinked}
use Rattle.shard_world.proofs.peer.Peer.lose.Goals as goal

pub returns : goal.returns
returns c checked now = record {
  made =
      drops_lose_so checked now c.args.book.now c.drop_connection.new.book c.args.self.now c.drop_connection.new.self
      (c.is_none.ensures ∙ ap not c.if-is_none.false) c.drop_connection.ensures;
  counted = tt;
  stops = tt;
  book =
      drop_keeps_book c.args.self.now c.drop_connection.new.self c.args.book.now c.drop_connection.new.book
      c.drop_connection.ensures;
  linked = λ linked. is_unlinked checked c.drop_connection.new.self c.drop_connection.ensures.none;
}

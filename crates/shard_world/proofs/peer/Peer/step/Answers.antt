use Rattle.std.proofs.Common.{◌∙◌}
use Rattle.std.specs.Arc.{arc_value}
use Rattle.shard_checker.specs.CheckedView.{checked_view}
use Rattle.tables_log.specs.BookView.{book_checked}
use Rattle.shard_world.proofs.LinkedLemmas.{drop_keeps_book, is_unlinked, serves_alike}
use Rattle.shard_world.proofs.StopLemmas.{drops_connection}
use Rattle.shard_world.proofs.peer.Peer.step.Goals as goal

pub returns-in-Err-clause-moves : goal.returns-in-Err-clause-moves
returns-in-Err-clause-moves c =
    drops_connection (checked_view (arc_value c.args.checked.now)) c.args.now c.args.event c.args.book.now
    c.try_step.new.book c.drop_connection.new.book c.args.self.now c.try_step.new.self
    c.drop_connection.new.self c.in-Err.ensures.stops c.drop_connection.ensures

pub returns-in-Err-clause-book : goal.returns-in-Err-clause-book
returns-in-Err-clause-book c =
    serves_alike (checked_view (arc_value c.args.checked.now)) (book_checked c.args.book.now)
    (book_checked c.drop_connection.new.book)
    (drop_keeps_book c.try_step.new.self c.drop_connection.new.self c.try_step.new.book c.drop_connection.new.book
    c.drop_connection.ensures
    ∙ c.in-Err.ensures.book) c.requires.book

pub returns-in-Ok-clause-book : goal.returns-in-Ok-clause-book
returns-in-Ok-clause-book c =
    serves_alike (checked_view (arc_value c.args.checked.now)) (book_checked c.args.book.now)
    (book_checked c.try_step.new.book) c.in-Ok.ensures.book c.requires.book

pub returns-in-Ok-clause-linked : goal.returns-in-Ok-clause-linked
returns-in-Ok-clause-linked c = c.in-Ok.ensures.linked c.requires.linked

pub returns-in-Err-clause-linked : goal.returns-in-Err-clause-linked
returns-in-Err-clause-linked c =
    is_unlinked (checked_view (arc_value c.args.checked.now)) c.drop_connection.new.self c.drop_connection.ensures.none

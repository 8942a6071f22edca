use Rattle.std.specs.Arc.{arc_value}
use Rattle.shard_checker.specs.CheckedView.{checked_view}
use Rattle.tables_log.proofs.book.Book.routed.Goals as goal

pub returns-clause-routed : goal.returns-clause-routed
returns-clause-routed c =
    c.in_ok-try_clone.ensures.routed (checked_view (arc_value c.args.self.now.checked)).plan c.in-Some.ensures.routed

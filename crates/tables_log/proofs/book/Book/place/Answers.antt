use Rattle.std.proofs.Common.{◌-◌}
use Rattle.std.specs.Arc.{arc_value}
use Rattle.shard_checker.specs.CheckedView.{checked_view}
use Rattle.tables_log.proofs.RouteLemmas.{found_routed}
use Rattle.tables_log.proofs.book.Book.place.Goals as goal

pub returns-clause-routed : goal.returns-clause-routed
returns-clause-routed c =
    found_routed (checked_view (arc_value c.args.self.now.checked)).plan c.args.self.now.log.items c.deref.result.now
    (c.args.number - 1) c.get.result c.get.ensures.lookup.0 c.get.ensures.lookup.1 c.deref.ensures.value
    c.args.self.now.routed

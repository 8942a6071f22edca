use Rattle.std.specs.Arc.{arc_value}
use Rattle.shard_checker.specs.CheckedView.{checked_view, setting_in}
use Rattle.tables_log.proofs.BookLemmas.{stages_settled}
use Rattle.tables_log.proofs.committing.commit_tables.Goals as goal

-- the other tables are as they were, and what was seen of them was kept
pub settle-requires : goal.settle-requires
settle-requires c =
    stages_settled (setting_in (checked_view c.args.checked.now)) c.args.tables.now c.stage.new.tables
    c.args.commands.now c.args.time c.args.number (arc_value c.in-Ok.commit)
    c.requires.settled c.stage.ensures.keeps c.in-Ok.ensures.ok

use Rattle.shard_checker.specs.CheckedView.{checked_view}
use Rattle.tables_log.proofs.CommandLemmas.{wide_here, tries_update}
use Rattle.tables_log.proofs.applying.update.Goals as goal

pub update_in-requires-clause-wide : goal.update_in-requires-clause-wide
update_in-requires-clause-wide c =
    wide_here (checked_view c.args.checked.now) c.args.tables.now c.args.number c.in_ok-table.table.now
    c.index-tables-number.result
    c.index-tables-number.result c.requires c.in_ok-table.ensures.known

pub returns : goal.returns
returns c =
    tries_update (checked_view c.args.checked.now) c.args.tables.now c.args.number c.in_ok-table.table.now
    c.index-tables-number.result
    c.update_in.new.rows c.requires c.in_ok-table.ensures.known c.update_in.result c.args.key.now c.args.row.now
    c.update_in.ensures

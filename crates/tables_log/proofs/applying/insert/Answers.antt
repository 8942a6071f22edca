use Rattle.shard_checker.specs.CheckedView.{checked_view}
use Rattle.tables_log.proofs.CommandLemmas.{wide_here, tries_insert}
use Rattle.tables_log.proofs.applying.insert.Goals as goal

pub insert_in-requires-clause-wide : goal.insert_in-requires-clause-wide
insert_in-requires-clause-wide c =
    wide_here (checked_view c.args.checked.now) c.args.tables.now c.args.number c.in_ok-table.table.now
    c.index-tables-number.result
    c.index-tables-number.result c.requires c.in_ok-table.ensures.known

pub returns : goal.returns
returns c =
    tries_insert (checked_view c.args.checked.now) c.args.tables.now c.args.number c.in_ok-table.table.now
    c.index-tables-number.result
    c.insert_in.new.rows c.requires c.in_ok-table.ensures.known c.insert_in.result c.args.row.now
    c.insert_in.ensures

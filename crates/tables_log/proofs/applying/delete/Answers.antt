use Rattle.shard_checker.specs.CheckedView.{checked_view}
use Rattle.tables_log.proofs.CommandLemmas.{wide_here, tries_delete}
use Rattle.tables_log.proofs.applying.delete.Goals as goal

pub delete_in-requires : goal.delete_in-requires
delete_in-requires c =
    wide_here (checked_view c.args.checked.now) c.args.tables.now c.args.number c.in_ok-table.table.now
    c.index-tables-number.result
    c.index-tables-number.result c.requires c.in_ok-table.ensures.known

pub returns : goal.returns
returns c =
    tries_delete (checked_view c.args.checked.now) c.args.tables.now c.args.number c.in_ok-table.table.now
    c.index-tables-number.result
    c.delete_in.new.rows c.requires c.in_ok-table.ensures.known c.delete_in.result c.args.key.now
    c.delete_in.ensures

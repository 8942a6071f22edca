use Rattle.std.proofs.Common.{drop}
use Rattle.tables_log.proofs.BookLemmas.{MakingTables}
use Rattle.tables_log.proofs.committing.empty_tables.Given as goal

abbrev pub invariant-loop-table : goal.invariant-loop-table
invariant-loop-table l = MakingTables l.rows.items (drop l.table-index l.tables) l.tables

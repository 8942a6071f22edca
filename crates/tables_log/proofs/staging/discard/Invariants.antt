use Rattle.tables_log.specs.Places.{kept_in}
use Rattle.tables_log.proofs.PassLemmas.{GoingTables}
use Rattle.tables_log.proofs.staging.discard.Given as goal

abbrev pub invariant-loop-rows : goal.invariant-loop-rows
invariant-loop-rows l =
    GoingTables l.tables l.initial.tables l.rows-index (kept_in l.initial.tables) (kept_in l.initial.tables)

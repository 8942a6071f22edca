use Rattle.tables_log.specs.Places.{kept_at}
use Rattle.tables_log.proofs.PassLemmas.{Going}
use Rattle.tables_log.proofs.table_rows.TableRows.discard.Given as goal

abbrev pub invariant-loop-map : goal.invariant-loop-map
invariant-loop-map l =
    Going l.map-items l.initial.map-items l.map-index (kept_at l.initial.map-items) (kept_at l.initial.map-items)

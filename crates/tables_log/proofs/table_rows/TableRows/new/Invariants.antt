use Rattle.tables_log.proofs.PlaceLemmas.{Making}
use Rattle.tables_log.proofs.table_rows.TableRows.new.Given as goal

abbrev pub invariant-loop : goal.invariant-loop
invariant-loop l = Making l.maps.items l.counter

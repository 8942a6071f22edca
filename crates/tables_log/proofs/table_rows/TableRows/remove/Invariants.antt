use Rattle.std.specs.Prelude.{Some, None}
use Rattle.replica_identity.specs.Setting.{keys_in}
use Rattle.tables_log.specs.Places.{values_in}
use Rattle.tables_log.proofs.StepLemmas.{Stepping}
use Rattle.tables_log.proofs.table_rows.TableRows.remove.Given as goal

abbrev pub invariant-loop-number : goal.invariant-loop-number
invariant-loop-number l =
    Stepping l.initial.self.maps.items l.self.maps.items (values_in (keys_in (Some l.table)) l.row) None l.number

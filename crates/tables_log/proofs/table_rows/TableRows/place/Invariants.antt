use Rattle.std.specs.Prelude.{Some}
use Rattle.replica_identity.specs.Setting.{keys_in}
use Rattle.tables_log.specs.Places.{values_in}
use Rattle.tables_log.proofs.StepLemmas.{Placing}
use Rattle.tables_log.proofs.table_rows.TableRows.place.Given as goal

abbrev pub invariant-loop-number : goal.invariant-loop-number
invariant-loop-number l =
    Placing l.initial.self.maps.items l.self.maps.items (values_in (keys_in (Some l.table)) l.row) (Some l.row) l.number

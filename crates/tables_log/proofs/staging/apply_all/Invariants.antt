use Rattle.std.proofs.Common.{◌+◌, drop, map}
use Rattle.replica_identity.specs.ChangeView.{change_view}
use Rattle.shard_checker.specs.CheckedView.{checked_view, setting_in}
use Rattle.table_changes.specs.Commands.{command_view}
use Rattle.tables_log.proofs.ListLemmas.{SoFar}
use Rattle.tables_log.proofs.staging.apply_all.Given as goal

abbrev pub invariant-loop-index : goal.invariant-loop-index
invariant-loop-index l =
    SoFar (setting_in (checked_view l.checked)) l.tables l.initial.tables (map change_view l.changes.items)
    (l.index + 1) (map command_view (drop l.index l.commands)) (map command_view l.commands)

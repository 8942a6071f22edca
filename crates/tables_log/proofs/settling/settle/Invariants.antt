use Rattle.std.proofs.Common.{drop}
use Rattle.tables_log.specs.Settling.{are_named}
use Rattle.tables_log.proofs.SettleLemmas.{Settling}
use Rattle.tables_log.proofs.settling.settle.Given as goal

abbrev pub invariant-loop-command : goal.invariant-loop-command
invariant-loop-command l =
    Settling l.tables l.initial.tables (are_named (drop l.command-index l.commands)) (are_named l.commands)

use Rattle.std.proofs.Common.{drop}
use Rattle.tables_log.specs.Settling.{is_in}
use Rattle.tables_log.proofs.SettleLemmas.{Settling}
use Rattle.tables_log.proofs.settling.settle_each.Given as goal

abbrev pub invariant-loop-number : goal.invariant-loop-number
invariant-loop-number l = Settling l.tables l.initial.tables (is_in (drop l.number-index l.numbers)) (is_in l.numbers)

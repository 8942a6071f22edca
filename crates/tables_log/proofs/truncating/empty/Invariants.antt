use Rattle.std.proofs.Common.{drop}
use Rattle.tables_log.proofs.TruncateLemmas.{Emptying}
use Rattle.tables_log.proofs.truncating.empty.Given as goal

abbrev pub invariant-loop-number : goal.invariant-loop-number
invariant-loop-number l = Emptying l.tables l.initial.tables (drop l.number-index l.numbers) l.numbers

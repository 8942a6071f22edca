use Rattle.std.proofs.Common.{◌≡◌, drop}
use Rattle.sql_reader.specs.Expressions.{found_from}
use Rattle.sql_reader.proofs.column.find_column.Given as goal

abbrev pub invariant-loop-number : goal.invariant-loop-number
invariant-loop-number l = found_from l.number l.name (drop l.number l.columns) ≡ found_from 0 l.name l.columns

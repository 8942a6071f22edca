use Rattle.std.proofs.Common.{◌≡◌, ◌-◌}
use Rattle.pgoutput_msgs.specs.Reading.{many, column_at}
use Rattle.pgoutput_msgs.proofs.Counting.{with_front}
use Rattle.pgoutput_msgs.proofs.relation.read_counted_columns.Given as goal

abbrev pub invariant-loop : goal.invariant-loop
invariant-loop l = with_front l.columns.items (many column_at (l.count - l.counter) l.r) ≡ many column_at l.count l.fn.r

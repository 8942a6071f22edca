use Rattle.std.proofs.Common.{◌≡◌, ◌-◌}
use Rattle.pgoutput_msgs.specs.Reading.{many, cell_at}
use Rattle.pgoutput_msgs.proofs.Counting.{with_front}
use Rattle.pgoutput_msgs.proofs.tuple.read_cells.Given as goal

abbrev pub invariant-loop : goal.invariant-loop
invariant-loop l = with_front l.cells.items (many cell_at (l.count - l.counter) l.r) ≡ many cell_at l.count l.fn.r

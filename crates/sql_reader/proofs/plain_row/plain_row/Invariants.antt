use Rattle.std.proofs.Common.{◌-◌, length, map}
use Rattle.filter_tree.specs.Values.{datum_view}
use Rattle.sql_reader.proofs.PlainRows.{Wants}
use Rattle.sql_reader.proofs.plain_row.plain_row.Given as goal

abbrev pub invariant-loop-place : goal.invariant-loop-place
invariant-loop-place l = Wants l.text (map datum_view l.values.items) l.place

abbrev pub decreases-loop-place : goal.decreases-loop-place
decreases-loop-place l = length l.text - l.place

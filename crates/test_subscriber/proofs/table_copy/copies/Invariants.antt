use Rattle.std.proofs.Common.{◌≡◌, ◌++◌, drop, map}
use Rattle.test_subscriber.proofs.table_copy.copies.Given as goal

abbrev pub invariant-loop-row : goal.invariant-loop-row
invariant-loop-row l = l.copies.items ++ map (λ row. row.now) (drop l.row-index l.rows) ≡ map (λ row. row.now) l.rows

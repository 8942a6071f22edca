use Rattle.std.proofs.Common.{◌≡◌, ◌++◌, drop, map}
use Rattle.tables_log.proofs.table_rows.copies.Given as goal

abbrev pub invariant-loop-row : goal.invariant-loop-row
invariant-loop-row l = l.rows.items ++ map (λ row. row.now) (drop l.row-index l.shared) ≡ map (λ row. row.now) l.shared

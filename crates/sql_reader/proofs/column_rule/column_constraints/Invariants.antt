use Rattle.std.proofs.Common.{◌≡◌, ◌≤◌}
use Rattle.sql_reader.specs.Items.{to_read, size}
use Rattle.sql_reader.specs.Repetitions.{each, repeat}
use Rattle.sql_reader.specs.Columns as spec
use Rattle.sql_reader.proofs.column_rule.column_constraints.Given as goal

abbrev pub invariant-loop-r : goal.invariant-loop-r
invariant-loop-r l = record {
  so_far : spec.constraints l.has_key (to_read l.fn.r)
      ≡ repeat (each spec.constraint_ahead (spec.constraint l.has_key)) l.given (to_read l.r);
  fewer : size (to_read l.r) ≤ size (to_read l.fn.r);
}

abbrev pub decreases-loop-r : goal.decreases-loop-r
decreases-loop-r l = size (to_read l.r)

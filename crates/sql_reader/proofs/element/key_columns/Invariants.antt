use Rattle.std.proofs.Common.{◌≡◌, ◌<◌}
use Rattle.sql_reader.specs.declared.item.Item.TheVariants.{Comma}
use Rattle.sql_reader.specs.Items.{to_read, size}
use Rattle.sql_reader.specs.Repetitions.{link, repeat}
use Rattle.sql_reader.specs.Columns as spec
use Rattle.sql_reader.specs.Columns.{parts_view}
use Rattle.sql_reader.proofs.element.key_columns.Given as goal

abbrev pub invariant-loop-r : goal.invariant-loop-r
invariant-loop-r l = record {
  so_far : spec.key_columns (parts_view l.fn.parts) (to_read l.fn.r)
      ≡ repeat (link Comma spec.key_column) (parts_view l.parts) (to_read l.r);
  fewer : size (to_read l.r) < size (to_read l.fn.r);
}

abbrev pub decreases-loop-r : goal.decreases-loop-r
decreases-loop-r l = size (to_read l.r)

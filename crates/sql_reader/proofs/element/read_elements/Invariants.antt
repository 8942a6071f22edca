use Rattle.std.proofs.Common.{◌≡◌, ◌<◌}
use Rattle.sql_reader.specs.declared.item.Item.TheVariants.{Comma}
use Rattle.sql_reader.specs.Items.{to_read, size}
use Rattle.sql_reader.specs.Repetitions.{link, repeat}
use Rattle.sql_reader.specs.Columns as spec
use Rattle.sql_reader.specs.Columns.{parts_view}
use Rattle.sql_reader.proofs.element.read_elements.Given as goal

abbrev pub invariant-loop-parts : goal.invariant-loop-parts
invariant-loop-parts l = record {
  so_far : spec.elements (to_read l.fn.r) ≡ repeat (link Comma spec.element) (parts_view l.parts) (to_read l.r);
  fewer : size (to_read l.r) < size (to_read l.fn.r);
}

abbrev pub decreases-loop-parts : goal.decreases-loop-parts
decreases-loop-parts l = size (to_read l.r)

use Rattle.std.proofs.Common.{◌≡◌, ◌<◌}
use Rattle.sql_reader.specs.declared.item.Item.TheVariants.{Comma}
use Rattle.sql_reader.specs.Items.{to_read, size}
use Rattle.sql_reader.specs.Repetitions.{link, repeat}
use Rattle.pub_reader.specs.Publishing as spec
use Rattle.pub_reader.proofs.parameter.parameters.Given as goal

abbrev pub invariant-loop-r : goal.invariant-loop-r
invariant-loop-r l = record {
  so_far : spec.parameters (to_read l.fn.r) ≡ repeat (link Comma spec.one_parameter) l.given (to_read l.r);
  fewer : size (to_read l.r) < size (to_read l.fn.r);
}

abbrev pub decreases-loop-r : goal.decreases-loop-r
decreases-loop-r l = size (to_read l.r)

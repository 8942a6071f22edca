use Rattle.std.proofs.Common.{◌≡◌, ◌<◌, map}
use Rattle.filter_tree.specs.Values.{datum_view}
use Rattle.sql_reader.specs.declared.item.Item.TheVariants.{Comma}
use Rattle.sql_reader.specs.Items.{to_read, size}
use Rattle.sql_reader.specs.Rows.{values, one_value}
use Rattle.sql_reader.specs.Repetitions.{link, repeat}
use Rattle.sql_reader.proofs.row.values.Given as goal

abbrev pub invariant-loop-row : goal.invariant-loop-row
invariant-loop-row l = record {
  so_far : values (to_read l.fn.r) ≡ repeat (link Comma one_value) (map datum_view l.row.items) (to_read l.r);
  fewer : size (to_read l.r) < size (to_read l.fn.r);
}

abbrev pub decreases-loop-row : goal.decreases-loop-row
decreases-loop-row l = size (to_read l.r)

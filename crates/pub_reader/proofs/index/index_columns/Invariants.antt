use Rattle.std.proofs.Common.{◌≡◌, ◌<◌}
use Rattle.sql_reader.specs.declared.item.Item.TheVariants.{Comma}
use Rattle.sql_reader.specs.Items.{to_read, size}
use Rattle.sql_reader.specs.Repetitions.{link, repeat}
use Rattle.pub_reader.specs.Indexes as spec
use Rattle.pub_reader.proofs.index.index_columns.Given as goal

abbrev pub invariant-loop-numbers : goal.invariant-loop-numbers
invariant-loop-numbers l = record {
  so_far : spec.indexed_columns l.columns (to_read l.fn.r)
      ≡ repeat (link Comma (spec.index_column l.columns)) l.numbers.items (to_read l.r);
  fewer : size (to_read l.r) < size (to_read l.fn.r);
}

abbrev pub decreases-loop-numbers : goal.decreases-loop-numbers
decreases-loop-numbers l = size (to_read l.r)

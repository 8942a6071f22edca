use Rattle.std.proofs.Common.{◌≡◌, ◌<◌}
use Rattle.sql_reader.specs.declared.item.Item.TheVariants.{Comma}
use Rattle.sql_reader.specs.Items.{to_read, size}
use Rattle.sql_reader.specs.Repetitions.{link, repeat}
use Rattle.sql_reader.specs.Written.{as_filter}
use Rattle.pub_reader.specs.DraftView.{draft_view, objects_view}
use Rattle.pub_reader.specs.Objects as spec
use Rattle.pub_reader.proofs.object.objects.Given as goal

abbrev pub invariant-loop-r : goal.invariant-loop-r
invariant-loop-r l = record {
  so_far : spec.objects as_filter (draft_view l.draft) (to_read l.fn.r)
      ≡ repeat (link Comma (spec.object as_filter (draft_view l.draft))) (objects_view l.kind l.coverage)
      (to_read l.r);
  fewer : size (to_read l.r) < size (to_read l.fn.r);
}

abbrev pub decreases-loop-r : goal.decreases-loop-r
decreases-loop-r l = size (to_read l.r)

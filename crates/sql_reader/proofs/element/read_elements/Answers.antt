use Rattle.std.proofs.Common.{Ok, ap, ◌∙◌}
use Rattle.sql_reader.specs.declared.item.Item.TheVariants.{Comma}
use Rattle.sql_reader.specs.Items.{to_read}
use Rattle.sql_reader.specs.Columns as spec
use Rattle.sql_reader.specs.Columns.{parts_view}
use Rattle.sql_reader.proofs.RepetitionLemmas.{link-ends}
use Rattle.sql_reader.proofs.element.read_elements.Goals as goal

-- no comma is left
pub returns : goal.returns
returns c = (
  c.loop-parts.invariant.so_far
      ∙ link-ends Comma spec.element (parts_view c.loop-parts.parts) (to_read c.loop-parts.r)
      (c.in_ok-next_is.ensures.reads ∙ ap (λ more. Ok (more, to_read c.loop-parts.r)) c.if-branch.false),
  c.loop-parts.invariant.fewer,
)

use Rattle.std.proofs.Common.{ap, ◌∙◌}
use Rattle.sql_reader.specs.Items as spec
use Rattle.sql_reader.specs.Items.{items}
use Rattle.sql_reader.proofs.reader.Reader.new.Goals as goal

-- all tokens of the text
pub returns : goal.returns
unfolding spec.items_of
returns c = c.look_at.ensures ∙ ap items c.new.ensures.left

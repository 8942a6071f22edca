use Rattle.std.proofs.Common.{◌∙◌}
use Rattle.publisher_desk.proofs.desk.look_up.Goals as goal

-- the row is that of the key
pub returns-clause-row : goal.returns-clause-row
returns-clause-row c = c.in_ok-answer.ensures ∙ c.row.ensures

use Rattle.pgoutput_msgs.proofs.TextLemmas.{text_of_string}
use Rattle.pgoutput_msgs.proofs.values.text_cell.Goals as goal

pub returns-clause-text : goal.returns-clause-text
returns-clause-text c = text_of_string c.args.text c.new.result c.new.ensures

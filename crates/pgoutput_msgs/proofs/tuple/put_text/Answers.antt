use Rattle.pgoutput_msgs.proofs.tuple.put_text.Goals as goal

pub returns-clause-text : goal.returns-clause-text
returns-clause-text c = c.utf8.text

use Rattle.pgoutput_msgs.proofs.TransactionLemmas as lemmas
use Rattle.pgoutput_msgs.proofs.laws.commits_tell_transactions.Goals as goal

pub returns : goal.returns
returns c = lemmas.commits_tell_transactions

use Rattle.copy_both.proofs.SeenStreamLemmas as lemmas
use Rattle.copy_both.proofs.laws.streams_tell_transactions.Goals as goal

pub returns : goal.returns
returns c = lemmas.streams_tell_transactions

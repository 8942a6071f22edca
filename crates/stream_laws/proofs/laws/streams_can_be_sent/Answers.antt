use Rattle.stream_laws.proofs.SentItems as lemmas
use Rattle.stream_laws.proofs.laws.streams_can_be_sent.Goals as goal

pub returns : goal.returns
returns c = lemmas.streams_can_be_sent

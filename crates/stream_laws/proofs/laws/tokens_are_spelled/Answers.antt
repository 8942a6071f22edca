use Rattle.stream_laws.proofs.SpelledTokens as lemmas
use Rattle.stream_laws.proofs.laws.tokens_are_spelled.Goals as goal

pub returns : goal.returns
returns c = lemmas.tokens_are_spelled

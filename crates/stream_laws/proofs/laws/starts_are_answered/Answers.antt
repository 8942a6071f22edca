use Rattle.stream_laws.proofs.StartAnswered.{starts_are_answered}
use Rattle.stream_laws.proofs.laws.starts_are_answered.Goals as goal

pub returns : goal.returns
returns c = starts_are_answered

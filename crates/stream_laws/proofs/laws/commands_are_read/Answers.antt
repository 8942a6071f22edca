use Rattle.stream_laws.proofs.CommandReading.{commands_are_read}
use Rattle.stream_laws.proofs.laws.commands_are_read.Goals as goal

pub returns : goal.returns
returns c = commands_are_read

use Rattle.std.proofs.Common.{refl}
use Rattle.commands.proofs.input.InputRead.read.Goals as goal

-- one read less is left
pub returns-in-Ok-clause-count : goal.returns-in-Ok-clause-count
returns-in-Ok-clause-count g c = refl

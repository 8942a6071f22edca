use Rattle.std.proofs.Common.{rules}
use Rattle.publisher_desk.proofs.note.Reading.copy.Goals as goal

pub returns : goal.returns
returns c = search rules

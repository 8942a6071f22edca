use Rattle.std.proofs.Common.{rules}
use Rattle.publisher_desk.proofs.desk.make_commit.Goals as goal

-- the book has that one commit more
pub returns-in-Ok-clause-ok : goal.returns-in-Ok-clause-ok
returns-in-Ok-clause-ok g c = search rules

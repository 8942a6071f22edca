use Rattle.std.specs.Arc.{arc_value}
use Rattle.shard_checker.specs.CheckedView.{checked_view}
use Rattle.sender_tests.proofs.scenarios.expect.Given as goal

abbrev pub ghosts-publish-P-Ledger : goal.ghosts-publish-P-Ledger
ghosts-publish-P-Ledger g a = record { name = a.opening.name; parts = a.opening.parts }

abbrev pub ghosts-publish-P-Publishing : goal.ghosts-publish-P-Publishing
ghosts-publish-P-Publishing g a = record { checked = checked_view (arc_value a.checked); limit = 10000; history = a.opening.history; slots = a.opening.slots }

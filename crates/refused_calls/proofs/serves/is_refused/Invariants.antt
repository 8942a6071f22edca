use Rattle.std.specs.Arc.{arc_value}
use Rattle.shard_checker.specs.CheckedView.{checked_view}
use Rattle.refused_calls.proofs.serves.is_refused.Given as goal

abbrev pub ghosts-publish-P-Ledger : goal.ghosts-publish-P-Ledger
ghosts-publish-P-Ledger g a = record { name = a.opening.name; parts = a.opening.parts }

abbrev pub ghosts-publish-P-Publishing : goal.ghosts-publish-P-Publishing
ghosts-publish-P-Publishing g a = record { checked = checked_view (arc_value a.checked); limit = 5; history = a.opening.history; slots = a.opening.slots }

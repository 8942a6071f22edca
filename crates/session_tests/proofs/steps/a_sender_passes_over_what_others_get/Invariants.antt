use Rattle.std.specs.Arc.{arc_value}
use Rattle.shard_checker.specs.CheckedView.{checked_view}
use Rattle.session_tests.proofs.steps.a_sender_passes_over_what_others_get.Given as goal

abbrev pub ghosts-halves-P-Ledger : goal.ghosts-halves-P-Ledger
ghosts-halves-P-Ledger g a = record { name = a.opening.name; parts = a.opening.parts }

abbrev pub ghosts-halves-P-Publishing : goal.ghosts-halves-P-Publishing
ghosts-halves-P-Publishing g a = record { checked = checked_view (arc_value a.checked); limit = 71; history = a.opening.history; slots = a.opening.slots }

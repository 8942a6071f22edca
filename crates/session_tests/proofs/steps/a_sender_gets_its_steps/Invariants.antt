use Rattle.std.specs.Arc.{arc_value}
use Rattle.shard_checker.specs.CheckedView.{checked_view}
use Rattle.session_tests.proofs.steps.a_sender_gets_its_steps.Given as goal

abbrev pub ghosts-steps-P-Ledger : goal.ghosts-steps-P-Ledger
ghosts-steps-P-Ledger g a = record { name = a.opening.name; parts = a.opening.parts }

abbrev pub ghosts-steps-P-Publishing : goal.ghosts-steps-P-Publishing
ghosts-steps-P-Publishing g a = record { checked = checked_view (arc_value a.checked); limit = 2; history = a.opening.history; slots = a.opening.slots }

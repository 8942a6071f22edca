use Rattle.std.specs.Arc.{arc_value}
use Rattle.shard_checker.specs.CheckedView.{checked_view}
use Rattle.session_tests.proofs.seats.a_thousand_sessions_have_seats.Given as goal

abbrev pub ghosts-seated-P-Ledger : goal.ghosts-seated-P-Ledger
ghosts-seated-P-Ledger g a = record { name = a.opening.name; parts = a.opening.parts }

abbrev pub ghosts-seated-P-Publishing : goal.ghosts-seated-P-Publishing
ghosts-seated-P-Publishing g a = record { checked = checked_view (arc_value a.checked); limit = 1; history = a.opening.history; slots = a.opening.slots }

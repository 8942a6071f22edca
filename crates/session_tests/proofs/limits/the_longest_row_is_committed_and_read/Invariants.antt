use Rattle.std.specs.Arc.{arc_value}
use Rattle.shard_checker.specs.CheckedView.{checked_view}
use Rattle.session_tests.proofs.limits.the_longest_row_is_committed_and_read.Given as goal

abbrev pub ghosts-longest_is_read-P-Ledger : goal.ghosts-longest_is_read-P-Ledger
ghosts-longest_is_read-P-Ledger g a = record { name = a.opening.name; parts = a.opening.parts }

abbrev pub ghosts-longest_is_read-P-Publishing : goal.ghosts-longest_is_read-P-Publishing
ghosts-longest_is_read-P-Publishing g a = record { checked = checked_view (arc_value a.checked); limit = 1; history = a.opening.history; slots = a.opening.slots }

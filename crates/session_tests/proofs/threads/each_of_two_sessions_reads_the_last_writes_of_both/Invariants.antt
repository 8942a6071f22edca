use Rattle.std.specs.Arc.{arc_value}
use Rattle.shard_checker.specs.CheckedView.{checked_view}
use Rattle.session_tests.proofs.threads.each_of_two_sessions_reads_the_last_writes_of_both.Given as goal

abbrev pub ghosts-both_sessions-P-Ledger : goal.ghosts-both_sessions-P-Ledger
ghosts-both_sessions-P-Ledger g a = record { name = a.opening.name; parts = a.opening.parts }

abbrev pub ghosts-both_sessions-P-Publishing : goal.ghosts-both_sessions-P-Publishing
ghosts-both_sessions-P-Publishing g a = record { checked = checked_view (arc_value a.checked); limit = 100; history = a.opening.history; slots = a.opening.slots }

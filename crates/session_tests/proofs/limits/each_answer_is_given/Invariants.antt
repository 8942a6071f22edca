use Rattle.std.specs.Arc.{arc_value}
use Rattle.shard_checker.specs.CheckedView.{checked_view}
use Rattle.session_tests.proofs.limits.each_answer_is_given.Given as goal

abbrev pub ghosts-expect_answers-P-Ledger : goal.ghosts-expect_answers-P-Ledger
ghosts-expect_answers-P-Ledger g a = record { name = a.opening.name; parts = a.opening.parts }

abbrev pub ghosts-expect_answers-P-Publishing : goal.ghosts-expect_answers-P-Publishing
ghosts-expect_answers-P-Publishing g a = record { checked = checked_view (arc_value a.checked); limit = 2; history = a.opening.history; slots = a.opening.slots }

use Rattle.std.proofs.Common.{◌≡◌}
use Rattle.sql_reader.specs.Items.{to_read, size}
use Rattle.sql_reader.specs.Reading.{more_ahead}
use Rattle.sql_reader.specs.Repetitions.{each, repeat}
use Rattle.sql_reader.specs.Written.{as_filter}
use Rattle.pub_reader.specs.DraftNames.{IsNamedDraft}
use Rattle.pub_reader.specs.DraftView.{draft_view}
use Rattle.pub_reader.specs.Statements.{statements, ended_statement}
use Rattle.pub_reader.proofs.statement.statements.Given as goal

abbrev pub invariant-loop-r : goal.invariant-loop-r
invariant-loop-r l =
    (statements as_filter (draft_view l.fn.draft) (to_read l.fn.r)
    ≡ repeat (each more_ahead (ended_statement as_filter)) (draft_view l.draft) (to_read l.r))
    × (IsNamedDraft (draft_view l.fn.draft) → IsNamedDraft (draft_view l.draft))

abbrev pub decreases-loop-r : goal.decreases-loop-r
decreases-loop-r l = size (to_read l.r)

use Rattle.std.proofs.Common.{arith}
use Rattle.sql_reader.specs.Items.{to_read}
use Rattle.sql_reader.specs.Written.{as_filter}
use Rattle.sql_reader.proofs.RepetitionLemmas.{turns}
use Rattle.pub_reader.specs.DraftView.{draft_view}
use Rattle.pub_reader.proofs.KeptNames.{statement_named}
use Rattle.pub_reader.proofs.statement.statements.Goals as goal

-- a statement preserves what is stated about names, since a reader's tokens are those of a text
pub loop-r-preserved : goal.loop-r-preserved
loop-r-preserved c = (
  grind (arith, turns, c.loop-r.invariant.0, c.in_ok-ended_statement.ensures.0, c.in_ok-more_ahead.ensures.answer),
  λ h. statement_named as_filter c.loop-r.r (draft_view c.loop-r.draft) (draft_view c.ended_statement.new.draft)
      (to_read c.ended_statement.new.r)
      c.in_ok-ended_statement.ensures.0 (c.loop-r.invariant.1 h),
)

use Rattle.std.proofs.Common.{◌≡◌, map}
use Rattle.commands.specs.Parts.{lines_left, lines_of}
use Rattle.commands.proofs.RowLines.{IsSoFar}
use Rattle.commands.specs.Eval.Carriers.{carrier_view}
use Rattle.commands.specs.Eval.Memos.{IsLineMemo}
use Rattle.commands.proofs.eval.write_rows.Given as goal

abbrev pub invariant-loop-row : goal.invariant-loop-row
invariant-loop-row g l = record {
  so_far : IsSoFar l.wanted l.carried.number (map carrier_view l.carried.carriers.now) l.carried.table.now.columns
      (lines_of l.rows) (lines_left l.row-iterator) l.status (g.W.Writer.contents l.initial.writer)
      (g.W.Writer.contents l.writer);
  memo : IsLineMemo l.wanted (map carrier_view l.carried.carriers.now) l.memory.memo;
  failed : g.W.Writer.has_failed l.writer ≡ g.W.Writer.has_failed l.initial.writer;
}

use Rattle.std.proofs.Common.{◌≡◌, length, map, drop}
use Rattle.pub_reader.specs.ScriptView.{line_view}
use Rattle.shard_checker.specs.CheckedView.{checked_view}
use Rattle.commands.proofs.ScriptLines.{IsSoFar}
use Rattle.commands.proofs.simulate.write_steps.Given as goal

-- the steps before this one are made and their lines are written
abbrev pub invariant-loop-line : goal.invariant-loop-line
invariant-loop-line g l = record {
  now_is : l.now ≡ length l.yielded;
  so_far : IsSoFar (checked_view l.fn.checked) l.limit (map line_view l.fn.lines.items)
      (map line_view (drop (length l.yielded) l.fn.lines.items)) l.now l.world
      (g.W.Writer.contents l.initial.writer) (g.W.Writer.contents l.writer);
  failed : g.W.Writer.has_failed l.writer ≡ g.W.Writer.has_failed l.initial.writer;
}

use Rattle.std.proofs.Common.{◌≡◌, if◌then◌else◌, refl, sym, subst, ap, map, ◌∙◌}
use Rattle.std.specs.List.{list_all}
use Rattle.std.specs.String.{string_bytes}
use Rattle.commands.proofs.RowLines.{so_far_at_start, so_far_next, memory_returned, stop_returned, all_written}
use Rattle.commands.proofs.WriteFaults.{answer_says}
use Rattle.commands.specs.Eval.BadRows.{is_answered}
use Rattle.commands.specs.Eval.Carriers.{carrier_view}
use Rattle.commands.specs.Eval.Memos.{IsLineMemo}
use Rattle.commands.specs.Parts.{lines_left, lines_of}
use Rattle.commands.specs.declared.failure.Status.TheVariants.{Refused}
use Rattle.commands.proofs.eval.write_rows.Goals.{then-not-branch, else-not-branch}
use Rattle.commands.proofs.eval.write_rows.Goals as goal

pub loop-row-init : goal.loop-row-init
loop-row-init g c =
    let left : lines_left c.into_iter-row-iterator.result ≡ lines_of c.args.rows.now =
    ap lines_left c.into_iter-row-iterator.ensures.into_iter_gives ∙ c.new-row-items.ensures in
    let carriers = map carrier_view c.args.carried.carriers.now in
    record {
      so_far = so_far_at_start c.args.wanted c.args.carried.number carriers c.args.carried.table.now.columns
          (lines_of c.args.rows.now) (lines_left c.into_iter-row-iterator.result) (g.W.Writer.contents c.args.writer.now)
          left;
      memo = subst (IsLineMemo c.args.wanted carriers) (sym c.new-memory.ensures) tt;
      failed = refl;
    }

pub loop-row-preserved : goal.loop-row-preserved
loop-row-preserved g c =
    let status_is : c.if-not-branch.status ≡ (if c.in_ok-push_line.field-0 then c.loop-row.status else Refused) =
    elim c.if-not-branch.branch [
      | then-not-branch w ↦ rw w.if-not-branch.true w.status-is
      | else-not-branch w ↦
          rw w.if-not-branch.false w.status-is
    ] in
    record {
      so_far = so_far_next c.args.wanted c.args.carried.number (map carrier_view c.args.carried.carriers.now)
          c.args.carried.table.now.columns (lines_of c.args.rows.now) (lines_left c.loop-row.row-iterator)
          c.in-Some.row.now (lines_left c.next.new.self)
          c.loop-row.status c.if-not-branch.status (g.W.Writer.contents c.args.writer.now)
          (g.W.Writer.contents c.loop-row.writer) (g.W.Writer.contents c.write_line.new.writer)
          (string_bytes c.push_line.new.line) c.in_ok-push_line.field-0
          c.in-Some.ensures.steps c.loop-row.invariant.so_far c.in_ok-push_line.ensures.line
          c.in_ok-push_line.ensures.answered
          status_is c.in_ok-write_line.ensures.written;
      memo = c.in_ok-push_line.ensures.memo;
      failed = c.in_ok-write_line.ensures.failed ∙ c.loop-row.invariant.failed;
    }

pub returns-in_err-push_line-clause-written : goal.returns-in_err-push_line-clause-written
returns-in_err-push_line-clause-written g c =
    memory_returned c.args.wanted c.args.carried.number (map carrier_view c.args.carried.carriers.now)
    c.args.carried.table.now.columns (lines_of c.args.rows.now) (lines_left c.loop-row.row-iterator)
    c.in-Some.row.now (lines_left c.next.new.self)
    c.loop-row.status (g.W.Writer.contents c.args.writer.now) (g.W.Writer.contents c.loop-row.writer)
    c.from_residual.result c.in-Some.ensures.steps c.loop-row.invariant.so_far c.from_residual.ensures.1

pub returns-in_err-write_line-clause-written : goal.returns-in_err-write_line-clause-written
returns-in_err-write_line-clause-written g c =
    stop_returned c.args.wanted c.args.carried.number (map carrier_view c.args.carried.carriers.now)
    c.args.carried.table.now.columns (lines_of c.args.rows.now) (lines_left c.loop-row.row-iterator)
    c.in-Some.row.now (lines_left c.next.new.self)
    c.loop-row.status (g.W.Writer.contents c.args.writer.now) (g.W.Writer.contents c.loop-row.writer)
    (g.W.Writer.contents c.write_line.new.writer) (string_bytes c.push_line.new.line) c.in_err-write_line.field-0.0
    c.from_residual-in_err-write_line.result
    c.in-Some.ensures.steps c.loop-row.invariant.so_far c.in_ok-push_line.ensures.line
    c.in_err-write_line.ensures.stopped
    c.from_residual-in_err-write_line.ensures.1

pub returns-clause-written : goal.returns-clause-written
returns-clause-written g c =
    all_written c.args.wanted c.args.carried.number (map carrier_view c.args.carried.carriers.now)
    c.args.carried.table.now.columns (lines_of c.args.rows.now) (lines_left c.loop-row.row-iterator)
    c.loop-row.status
    (g.W.Writer.contents c.args.writer.now) (g.W.Writer.contents c.loop-row.writer) c.in-None.ensures.steps.0
    c.loop-row.invariant.so_far

pub returns-clause-failed : goal.returns-clause-failed
returns-clause-failed g c =
    let first = c.loop-row.invariant.so_far.first in
    answer_says (list_all (is_answered c.args.carried.table.now.columns) first.first) c.loop-row.status
    (g.W.Writer.has_failed c.args.writer.now) (g.W.Writer.has_failed c.loop-row.writer) first.goes_by
    c.loop-row.invariant.failed

use Rattle.std.proofs.Common.{rules, ◌≡◌, [], ◌∷◌, ◌++◌, ◌+◌, ◌<◌, length, map, drop, refl, ap, ◌∙◌, arith}
use Rattle.std.proofs.lemmas.Iterator.Adapters.{YieldsList-from_vec}
use Rattle.std.proofs.lemmas.Iterator.Consumers.{YieldsList-turn, YieldsList-end}
use Rattle.std.proofs.lemmas.List.{length_push}
use Rattle.pub_reader.specs.ScriptView.{line_view}
use Rattle.shard_checker.specs.CheckedView.{checked_view}
use Rattle.shard_world.specs.WorldCalls.{world_checked}
use Rattle.commands.proofs.ScriptLines.{left_next, none_left, so_far_at_start, so_far_next, stop_returned, all_written}
use Rattle.commands.proofs.simulate.write_steps.Goals as goal

pub loop-line-init : goal.loop-line-init
loop-line-init g c =
    let steps = map line_view c.args.lines.items in
    let same : world_checked c.in_ok-world.world ≡ checked_view c.args.checked =
    c.in_ok-world.ensures.checked ∙ ap checked_view (c.in_ok-try_clone.ensures ∙ c.in_ok-shared.ensures.ok) in
    record {
      now_is = refl;
      so_far = so_far_at_start (checked_view c.args.checked) c.args.limit steps steps 0 c.in_ok-world.world
          (g.W.Writer.contents c.args.writer.now) refl refl c.in_ok-world.ensures.stands same;
      failed = refl;
    }

pub loop-line-preserved : goal.loop-line-preserved
loop-line-preserved g c =
    let contents = g.W.Writer.contents in
    let items = c.args.lines.items in
    let done = length c.loop-line.yielded in
    let turn = YieldsList-turn
    (YieldsList-from_vec {s = c.into_iter-line-iterator.result} items (search rules) (search rules))
    c.loop-line.yielded c.loop-line.line-iterator c.loop-line.yielded_by c.next.result c.next.new.self c.in-Some.line
    c.in-Some.is c.next.ensures.steps in
    let left_is = left_next items done c.in-Some.line turn.0 turn.1 in
    let more : length (c.loop-line.yielded ++ c.in-Some.line ∷ []) ≡ done + 1 =
    length_push c.loop-line.yielded c.in-Some.line in
    let room : c.loop-line.now < 100000 = omega (arith, turn.0, c.requires.few, c.loop-line.invariant.now_is) in
    record {
      now_is = omega (arith, more, c.loop-line.invariant.now_is);
      so_far = rw more
          (so_far_next (checked_view c.args.checked) c.args.limit (map line_view items)
          (map line_view (drop done items)) (line_view c.in-Some.line) (map line_view (drop (done + 1) items))
          c.loop-line.now (c.loop-line.now + 1) c.loop-line.world c.write_step.new.world (contents c.args.writer.now)
          (contents c.loop-line.writer) (contents c.write_step.new.writer)
          left_is refl room c.loop-line.invariant.so_far c.in_ok-write_step.ensures.written);
      failed = c.in_ok-write_step.ensures.failed ∙ c.loop-line.invariant.failed;
    }

pub returns-in_err-write_step-clause-written : goal.returns-in_err-write_step-clause-written
returns-in_err-write_step-clause-written g c =
    let contents = g.W.Writer.contents in
    let items = c.args.lines.items in
    let done = length c.loop-line.yielded in
    let turn = YieldsList-turn
    (YieldsList-from_vec {s = c.into_iter-line-iterator.result} items (search rules) (search rules))
    c.loop-line.yielded c.loop-line.line-iterator c.loop-line.yielded_by c.next.result c.next.new.self c.in-Some.line
    c.in-Some.is c.next.ensures.steps in
    let room : c.loop-line.now < 100000 = omega (arith, turn.0, c.requires.few, c.loop-line.invariant.now_is) in
    stop_returned (checked_view c.args.checked) c.args.limit (map line_view items) (map line_view (drop done items))
    (line_view c.in-Some.line) (map line_view (drop (done + 1) items))
    c.loop-line.now c.loop-line.world c.write_step.new.world (contents c.args.writer.now) (contents c.loop-line.writer)
    (contents c.write_step.new.writer) c.in_err-write_step.field-0.0 c.from_residual-in_err-write_step.result
    (left_next items done c.in-Some.line turn.0 turn.1) room c.loop-line.invariant.so_far
    c.in_err-write_step.ensures.stopped c.from_residual-in_err-write_step.ensures.1

pub returns-clause-written : goal.returns-clause-written
returns-clause-written g c =
    let contents = g.W.Writer.contents in
    let items = c.args.lines.items in
    let done = length c.loop-line.yielded in
    let end = YieldsList-end
    (YieldsList-from_vec {s = c.into_iter-line-iterator.result} items (search rules) (search rules))
    c.loop-line.yielded c.loop-line.line-iterator c.loop-line.yielded_by c.next.result c.next.new.self c.in-None.is
    c.next.ensures.steps in
    all_written (checked_view c.args.checked) c.args.limit (map line_view items) (map line_view (drop done items))
    c.loop-line.now c.loop-line.world (contents c.args.writer.now) (contents c.loop-line.writer)
    (none_left items done (omega (arith, end.1))) c.loop-line.invariant.so_far

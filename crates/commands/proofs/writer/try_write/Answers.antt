use Rattle.commands.proofs.Writing.{to_go_next, to_go_kept}
use Rattle.commands.proofs.writer.try_write.Goals.{in-Ok, in-Err}
use Rattle.commands.proofs.writer.try_write.Goals as goal

pub loop-preserved : goal.loop-preserved
loop-preserved g c =
    let contents = g.W.Write.contents in
    elim c.match-write.branch [
      | in-Ok w ↦ rw w.rest-is
          (to_go_next c.args.text.now c.loop.rest.now w.in-Ok.count (contents c.args.writer.now)
          (contents c.loop.writer) (contents c.write.new.self) c.loop.invariant w.in-Ok.ensures.bytes)
      | in-Err w ↦ rw w.rest-is
          (to_go_kept c.args.text.now c.loop.rest.now (contents c.args.writer.now) (contents c.loop.writer)
          (contents c.write.new.self) c.loop.invariant w.in-Err.ensures.bytes)
    ]

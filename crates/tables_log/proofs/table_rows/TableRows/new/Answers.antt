use Rattle.tables_log.proofs.PlaceLemmas.{making_more}
use Rattle.tables_log.proofs.table_rows.TableRows.new.Goals as goal

pub loop-preserved : goal.loop-preserved
loop-preserved c =
    making_more c.loop.maps.items c.push-in-loop.new.self.items c.new-in-loop.result c.loop.counter
    c.in_ok-push-2.ensures.items c.new-in-loop.ensures.kept
    c.new-in-loop.ensures.seen c.loop.invariant

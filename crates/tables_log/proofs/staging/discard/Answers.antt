use Rattle.std.proofs.Common.{arith}
use Rattle.std.specs.Prelude.{slice_index_or}
use Rattle.std.proofs.lemmas.Option.{slice_get-get_or}
use Rattle.tables_log.proofs.PassLemmas.{discards_tables_next, discards_tables}
use Rattle.tables_log.proofs.staging.discard.Goals as goal

pub loop-rows-preserved : goal.loop-rows-preserved
loop-rows-preserved c =
    discards_tables_next c.loop-rows.tables c.args.tables.now c.loop-rows.rows-index
    (slice_index_or c.loop-rows.tables c.loop-rows.rows-index c.rows-item.result) c.discard.new.self
    (slice_get-get_or c.loop-rows.tables c.loop-rows.rows-index c.rows-item.result (omega arith)) c.discard.ensures
    c.loop-rows.invariant

pub returns : goal.returns
returns c = discards_tables c.loop-rows.tables c.args.tables.now c.loop-rows.rows-index (omega arith)
    c.loop-rows.invariant

use Rattle.std.proofs.Common.{arith}
use Rattle.std.proofs.lemmas.Option.{slice_get-get_or}
use Rattle.std.specs.Prelude.{slice_index_or}
use Rattle.tables_log.proofs.SettleLemmas.{settles_here}
use Rattle.tables_log.proofs.settling.settle_one.Goals as goal

pub returns : goal.returns
returns c =
    settles_here c.args.tables.now c.args.number
    (slice_index_or c.args.tables.now c.args.number c.index-tables-number.result) c.settle.new.self
    (slice_get-get_or c.args.tables.now c.args.number c.index-tables-number.result (omega arith)) c.settle.ensures

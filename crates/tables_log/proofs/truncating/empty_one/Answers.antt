use Rattle.std.proofs.Common.{arith}
use Rattle.std.proofs.lemmas.Option.{slice_get-get_or}
use Rattle.std.specs.Prelude.{slice_index_or}
use Rattle.tables_log.proofs.PlaceLemmas.{keeps_tables}
use Rattle.tables_log.proofs.TruncateLemmas.{empties_here}
use Rattle.tables_log.proofs.truncating.empty_one.Goals as goal

pub returns-clause-keeps : goal.returns-clause-keeps
returns-clause-keeps c =
    keeps_tables c.args.tables.now c.args.number
    (slice_index_or c.args.tables.now c.args.number c.index-tables-number.result) c.empty.new.self
    (slice_get-get_or c.args.tables.now c.args.number c.index-tables-number.result (omega arith)) c.empty.ensures.keeps

pub returns-clause-empties : goal.returns-clause-empties
returns-clause-empties c =
    empties_here c.args.tables.now c.args.number
    (slice_index_or c.args.tables.now c.args.number c.index-tables-number.result) c.empty.new.self
    (slice_get-get_or c.args.tables.now c.args.number c.index-tables-number.result (omega arith))
    c.empty.ensures.empties

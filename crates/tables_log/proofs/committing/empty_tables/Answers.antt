use Rattle.std.proofs.Common.{◌+◌, ◌∷◌, drop, arith, ap, subst, sym, ◌∙◌}
use Rattle.std.proofs.lemmas.List.{length-map}
use Rattle.replica_identity.specs.Setting.{index_key}
use Rattle.tables_log.proofs.BookLemmas.{MakingTables, makes_one}
use Rattle.tables_log.proofs.PlaceLemmas.{drop_next}
use Rattle.tables_log.proofs.committing.empty_tables.Goals as goal

pub loop-table-preserved : goal.loop-table-preserved
loop-table-preserved c =
    subst (λ rows. MakingTables rows (drop (c.loop-table.table-index + 1) c.args.tables.now) c.args.tables.now)
    (sym c.in_ok-push.ensures.items)
    (makes_one c.loop-table.rows.items c.table-item.result (drop (c.loop-table.table-index + 1) c.args.tables.now)
    c.args.tables.now c.in_ok-made.made
    (omega (arith, c.in_ok-made.ensures.width, c.len.ensures, length-map c.table-item.result.indexes index_key))
    c.in_ok-made.ensures.kept c.in_ok-made.ensures.seen
    (subst (λ left. MakingTables c.loop-table.rows.items left c.args.tables.now)
    (drop_next c.args.tables.now c.loop-table.table-index c.table-item.result (omega arith)
    ∙ ap (λ one. one ∷ drop (c.loop-table.table-index + 1) c.args.tables.now) (sym c.table-item.is))
    c.loop-table.invariant))

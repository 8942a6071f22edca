use Rattle.std.proofs.Common.{◌+◌, ◌∷◌, drop, map, arith, ap, subst, sym, ◌∙◌}
use Rattle.replica_identity.specs.ChangeView.{change_view}
use Rattle.shard_checker.specs.CheckedView.{checked_view, setting_in}
use Rattle.table_changes.specs.Commands.{command_view}
use Rattle.tables_log.proofs.ListLemmas.{SoFar, applies_one, applied_to_end, keeps_both, map_more, stops_at}
use Rattle.tables_log.specs.ApplyingAll.{StopsAt}
use Rattle.tables_log.specs.Places.{seen_in}
use Rattle.tables_log.proofs.PlaceLemmas.{drop_next}
use Rattle.tables_log.proofs.staging.apply_all.Goals as goal

pub loop-index-preserved : goal.loop-index-preserved
loop-index-preserved c =
    subst (λ changes. SoFar (setting_in (checked_view c.args.checked.now)) c.apply.new.tables c.args.tables.now
    changes (c.loop-index.index + 1 + 1)
    (map command_view (drop (c.loop-index.index + 1) c.args.commands.now)) (map command_view c.args.commands.now))
    (sym (ap (map change_view) c.in_ok-push-in-Ok.ensures.items
    ∙ map_more change_view c.loop-index.changes.items c.in-Ok.change))
    (applies_one (setting_in (checked_view c.args.checked.now)) c.loop-index.tables c.apply.new.tables
    c.args.tables.now (map change_view c.loop-index.changes.items) (c.loop-index.index + 1)
    (command_view c.index-commands-index.result) (map command_view (drop (c.loop-index.index + 1) c.args.commands.now))
    (map command_view c.args.commands.now) (change_view c.in-Ok.change) c.in-Ok.ensures.ok c.in-Ok.ensures.keeps
    (subst (λ left. SoFar (setting_in (checked_view c.args.checked.now)) c.loop-index.tables c.args.tables.now
    (map change_view c.loop-index.changes.items) (c.loop-index.index + 1)
    (map command_view left) (map command_view c.args.commands.now))
    (drop_next c.args.commands.now c.loop-index.index c.index-commands-index.result (omega arith)
    ∙ ap (λ one. one ∷ drop (c.loop-index.index + 1) c.args.commands.now) (sym c.index-commands-index.is))
    c.loop-index.invariant))

pub returns-in-Err : goal.returns-in-Err
returns-in-Err c = record {
  keeps = keeps_both c.args.tables.now c.loop-index.tables c.apply.new.tables c.loop-index.invariant.keeps
      c.apply.ensures.keeps;
  ok = tt;
  err = subst (StopsAt (setting_in (checked_view c.args.checked.now)) (seen_in c.args.tables.now)
      (map command_view c.args.commands.now)) (sym c.refused_at.ensures)
      (stops_at (setting_in (checked_view c.args.checked.now)) c.loop-index.tables c.args.tables.now
      (map change_view c.loop-index.changes.items) (c.loop-index.index + 1)
      (command_view c.index-commands-index.result)
      (map command_view (drop (c.loop-index.index + 1) c.args.commands.now))
      (map command_view c.args.commands.now) c.in-Err.refused c.in-Err.ensures.fault
      (subst (λ left. SoFar (setting_in (checked_view c.args.checked.now)) c.loop-index.tables c.args.tables.now
      (map change_view c.loop-index.changes.items) (c.loop-index.index + 1)
      (map command_view left) (map command_view c.args.commands.now))
      (drop_next c.args.commands.now c.loop-index.index c.index-commands-index.result (omega arith)
      ∙ ap (λ one. one ∷ drop (c.loop-index.index + 1) c.args.commands.now) (sym c.index-commands-index.is))
      c.loop-index.invariant));
}

pub returns : goal.returns
returns c = record {
  keeps = c.loop-index.invariant.keeps;
  ok = applied_to_end (setting_in (checked_view c.args.checked.now)) c.loop-index.tables c.args.tables.now
      (map change_view c.loop-index.changes.items) (c.loop-index.index + 1) c.loop-index.index
      c.args.commands.now (omega arith) c.loop-index.invariant;
  err = tt;
}

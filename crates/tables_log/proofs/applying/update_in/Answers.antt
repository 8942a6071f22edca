use Rattle.std.proofs.Common.{Some, ap, subst, ◌∙◌, rules}
use Rattle.replica_identity.specs.Parts.{part_in}
use Rattle.replica_identity.specs.Setting.{keys_in}
use Rattle.table_changes.specs.Records as r
use Rattle.tables_log.specs.Applying.{ReplacesRow}
use Rattle.tables_log.proofs.applying.update_in.Goals as goal

pub returns : goal.returns
returns c = record {
  fault = search rules;
  keeps = c.in_ok-gone.ensures.keeps;
  ok = record {
    gone = c.in_ok-gone.gone;
    found = c.in_ok-gone.ensures.found;
    puts = subst (λ row. ReplacesRow c.args.rows.now c.replace.new.rows (keys_in (Some c.args.table.now))
        c.in_ok-gone.gone row) c.in_ok-new.ensures.ok c.in_ok-gone.ensures.puts;
    gone_sendable = c.shared.ensures.sendable;
    sendable = c.in_ok-new.ensures.sendable;
    records = ap (λ part. r.Update c.args.number part c.into_shared.result)
        (c.in_ok-part.ensures ∙ ap (λ gone. part_in c.args.table.now gone (Some c.args.row.now)) c.shared.ensures.shows)
        ∙ ap (r.Update c.args.number (part_in c.args.table.now c.in_ok-gone.gone (Some c.args.row.now)))
        (c.into_shared.ensures ∙ c.in_ok-new.ensures.ok);
  };
}

use Rattle.std.proofs.Common.{None, ap, ◌∙◌}
use Rattle.replica_identity.specs.Parts.{part_in}
use Rattle.table_changes.specs.Records as r
use Rattle.tables_log.proofs.applying.delete_in.Goals as goal

pub returns : goal.returns
returns c = record {
  fault = c.in_ok-gone.ensures.fault;
  keeps = c.in_ok-gone.ensures.keeps;
  ok = record {
    gone = c.in_ok-gone.gone;
    found = c.in_ok-gone.ensures.found;
    puts = c.in_ok-gone.ensures.puts;
    gone_sendable = c.shared.ensures.sendable;
    records = ap (r.Delete c.args.number)
        (c.in_ok-part.ensures ∙ ap (λ gone. part_in c.args.table.now gone None) c.shared.ensures.shows);
  };
}

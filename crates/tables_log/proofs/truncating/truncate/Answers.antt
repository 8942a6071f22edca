use Rattle.std.proofs.Common.{None, ap, sym, ◌∙◌}
use Rattle.shard_checker.specs.CheckedView.{checked_view}
use Rattle.table_changes.specs.Commands.{unless, NoTable}
use Rattle.tables_log.proofs.TruncateLemmas.{truncate_applies}
use Rattle.tables_log.proofs.truncating.truncate.Goals as goal

pub returns : goal.returns
returns c = record {
  fault = ap (λ b. unless b NoTable None) (sym c.are_known.ensures ∙ c.if-not-are_known.false);
  keeps = c.empty.ensures.keeps;
  ok = truncate_applies (checked_view c.args.checked.now).catalog (checked_view c.args.checked.now).plan
      c.args.tables.now c.empty.new.tables c.args.numbers.now c.in_ok-once.once.items
      c.requires.narrow (sym c.are_known.ensures ∙ c.if-not-are_known.false) c.in_ok-once.ensures
      c.empty.ensures.empties;
}

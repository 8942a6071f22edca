use Rattle.std.proofs.Common.{Some, None, ap, ◌∙◌}
use Rattle.replica_identity.specs.Setting.{keys_in}
use Rattle.table_changes.specs.Commands.{unless, DuplicateKey}
use Rattle.tables_log.specs.Places.{seen_at}
use Rattle.tables_log.proofs.StepLemmas.{free_is}
use Rattle.tables_log.proofs.applying.place.Goals as goal

pub returns-then-not-is_free : goal.returns-then-not-is_free
returns-then-not-is_free c = record {
  fault = ap (λ b. unless b DuplicateKey None)
      (free_is (seen_at c.args.rows.now.maps.items) (keys_in (Some c.args.table.now)) c.args.row.now
      c.in_ok-is_free.is_free c.in_ok-is_free.ensures.free ∙ c.if-not-is_free.true);
  keeps = c.in_ok-is_free.ensures.keeps;
  ok = tt;
}

pub returns : goal.returns
returns c = record {
  fault = ap (λ b. unless b DuplicateKey None)
      (free_is (seen_at c.args.rows.now.maps.items) (keys_in (Some c.args.table.now)) c.args.row.now
      c.in_ok-is_free.is_free c.in_ok-is_free.ensures.free ∙ c.if-not-is_free.false);
  keeps = c.in_ok-is_free.ensures.keeps;
  ok = c.in_ok-is_free.ensures.puts c.if-not-is_free.false;
}

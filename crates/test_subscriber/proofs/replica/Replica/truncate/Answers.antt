use Rattle.std.proofs.Common.{rules, arith}
use Rattle.test_subscriber.specs.Copies.{RefusedBy}
use Rattle.test_subscriber.specs.Hearing.{hear_truncate}
use Rattle.test_subscriber.specs.Machine.{stopped}
use Rattle.test_subscriber.specs.Views.{machine_view}
use Rattle.test_subscriber.proofs.AlikeLemmas.{alike_itself, alike_both, same_itself, empties_next, refuses_next, all_emptied}
use Rattle.test_subscriber.proofs.replica.Replica.truncate.Goals as goal

pub loop-oid-init : goal.loop-oid-init
loop-oid-init c = (
  same_itself (hear_truncate c.args.oids.now (machine_view c.args.self.now)),
  alike_itself (stopped (machine_view c.args.self.now)),
)

pub loop-oid-preserved : goal.loop-oid-preserved
loop-oid-preserved c = (
  empties_next c.args.oids.now c.loop-oid.oid-index (machine_view c.loop-oid.self) (machine_view c.empty.new.self)
      (hear_truncate c.args.oids.now (machine_view c.args.self.now))
      (omega arith) c.in_ok-empty.ensures.ok c.loop-oid.invariant.0,
  alike_both (stopped (machine_view c.empty.new.self)) (stopped (machine_view c.loop-oid.self))
      (stopped (machine_view c.args.self.now)) c.empty.ensures.stays c.loop-oid.invariant.1,
)

pub returns-in_err-empty : goal.returns-in_err-empty
returns-in_err-empty c = record {
  ok = search rules;
  fault =
      let refused : RefusedBy (hear_truncate c.args.oids.now (machine_view c.args.self.now)) c.in_err-empty.field-0.0 =
      refuses_next c.args.oids.now c.loop-oid.oid-index (machine_view c.loop-oid.self)
      (hear_truncate c.args.oids.now (machine_view c.args.self.now))
      c.in_err-empty.field-0.0 (omega arith) c.in_err-empty.ensures.fault c.loop-oid.invariant.0 in
      search rules;
  stays = alike_both (stopped (machine_view c.empty.new.self)) (stopped (machine_view c.loop-oid.self))
      (stopped (machine_view c.args.self.now)) c.empty.ensures.stays c.loop-oid.invariant.1;
}

pub returns : goal.returns
returns c = record {
  ok = all_emptied c.args.oids.now c.loop-oid.oid-index (machine_view c.loop-oid.self)
      (hear_truncate c.args.oids.now (machine_view c.args.self.now)) (omega arith) c.loop-oid.invariant.0;
  fault = tt;
  stays = c.loop-oid.invariant.1;
}

use Rattle.std.proofs.Common.{◌≡◌, drop, map, length}
use Rattle.replica_identity.specs.Plans.{plan_view}
use Rattle.shard_checker.specs.Walking.{tables_refusal}
use Rattle.shard_checker.specs.Candidates.{is_empty}
use Rattle.shard_checker.proofs.sharding.check_certificates.Given as goal

-- the refusal of those that are left is that of all, and there are as many certificates as tables
abbrev pub invariant-loop-number : goal.invariant-loop-number
invariant-loop-number g l = record {
  same : tables_refusal is_empty (plan_view l.plan) l.subscriptions l.number (drop l.number l.tables)
      (map g.C.Source.nodes (drop l.number l.certs))
      ≡ tables_refusal is_empty (plan_view l.plan) l.subscriptions 0 l.tables (map g.C.Source.nodes l.certs);
  many : length l.certs ≡ length l.tables;
}

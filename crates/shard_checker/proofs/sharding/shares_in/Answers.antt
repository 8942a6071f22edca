use Rattle.std.proofs.Common.{◌++◌, sym, ◌∙◌}
use Rattle.std.proofs.lemmas.List.{at_drop_all, append-nil}
use Rattle.replica_identity.specs.Plans.{plan_view}
use Rattle.shard_checker.specs.CatalogRefusal.{table_shares}
use Rattle.shard_checker.specs.Owners.{shares_view}
use Rattle.shard_checker.proofs.sharding.shares_in.Goals as goal

-- no subscriber is left
pub returns : goal.returns
returns c =
    sym (append-nil (shares_view c.loop-number.shares.items)) ∙
    sym (at_drop_all (λ rest. shares_view c.loop-number.shares.items
    ++ table_shares (plan_view c.args.plan.now) c.args.table c.loop-number.number rest) c.args.subscriptions.now
    c.loop-number.number c.loop-number-test.false) ∙
    c.loop-number.invariant

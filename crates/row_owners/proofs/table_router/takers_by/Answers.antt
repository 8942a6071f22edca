use Rattle.std.proofs.Common.{◌≡◌, sym, ap, ◌∙◌}
use Rattle.replica_identity.specs.Plans.{plan_view}
use Rattle.replica_identity.specs.Shares.{ShareOf, takes}
use Rattle.replica_identity.specs.Transforms.{takes_row}
use Rattle.row_owners.specs.Routers.{filters_of}
use Rattle.row_owners.proofs.OwnerLemmas.{one_more}
use Rattle.row_owners.proofs.RouterLemmas.{filter_there}
use Rattle.row_owners.proofs.table_router.takers_by.Goals as goal

pub loop-subscriber-preserved : goal.loop-subscriber-preserved
loop-subscriber-preserved c =
    let is : c.takes_by.result
    ≡ takes_row (plan_view c.args.plan.now) c.loop-subscriber.subscriber c.args.table c.args.row.now =
    c.takes_by.ensures (filters_of (plan_view c.args.plan.now) c.args.table) c.requires.atoms c.requires.located
    (λ filter own. filter_there (plan_view c.args.plan.now) c.loop-subscriber.subscriber c.args.table filter
    (sym c.share-share.ensures ∙ own))
    ∙ ap (λ (share : ShareOf). takes share c.args.row.now) c.share-share.ensures in
    one_more c.loop-subscriber.set c.put.new.self c.loop-subscriber.subscriber
    (λ subscriber. takes_row (plan_view c.args.plan.now) subscriber c.args.table c.args.row.now) c.takes_by.result is
    c.loop-subscriber.invariant c.put.ensures

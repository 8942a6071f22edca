use Rattle.std.proofs.Common.{◌∙◌}
use Rattle.pub_catalog.specs.declared.catalog.Subscription.{Subscription}
use Rattle.pub_reader.proofs.Positions.{position-by_names}
use Rattle.pub_reader.proofs.draft.Draft.find_subscription.Goals as goal

pub returns : goal.returns
returns c =
    let self = c.args.self.now in
    c.find.ensures.value
    ∙ position-by_names c.args.name.now (λ (s : Subscription). s.name) self.subscription_names
    self.subscriptions.items self.same_subscriptions

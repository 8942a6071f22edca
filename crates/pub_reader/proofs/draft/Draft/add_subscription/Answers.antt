use Rattle.std.proofs.Common.{◌∙◌, ◌++◌, ◌∷◌, [], ap}
use Rattle.std.specs.String.{string_bytes}
use Rattle.pub_catalog.specs.declared.catalog.Subscription.{Subscription}
use Rattle.pub_reader.proofs.Positions.{names-push}
use Rattle.pub_reader.proofs.draft.Draft.add_subscription.Goals as goal

pub invariant_of-self-2 : goal.invariant_of-self-2
invariant_of-self-2 c =
    let self = c.args.self.now in
    record {
      same_publications = self.same_publications;
      same_subscriptions = names-push (λ (s : Subscription). s.name) (string_bytes c.in_ok-name.name)
          self.subscription_names c.add.new.self self.subscriptions.items c.push_reserved.new.self.items
          c.args.subscription
          self.same_subscriptions (c.in_ok-name.ensures.ok ∙ c.as_str.ensures) c.requires c.in_ok-add.ensures.ok
          (c.push_reserved.ensures.items ∙ ap (λ ss. ss ++ c.args.subscription ∷ []) c.in_ok-try_reserve.ensures.items);
    }

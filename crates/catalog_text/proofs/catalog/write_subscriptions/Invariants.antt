use Rattle.std.proofs.Common.{◌≡◌, ◌++◌, drop, map}
use Rattle.std.specs.List.{flat_map}
use Rattle.std.specs.String.{string_bytes}
use Rattle.pub_catalog.specs.CatalogView.{publication_view}
use Rattle.catalog_text.specs.CatalogText.{subscription_text}
use Rattle.catalog_text.proofs.catalog.write_subscriptions.Given as goal

-- what is written, and the subscriptions that are left, make up the text of all
abbrev pub invariant-loop-subscription : goal.invariant-loop-subscription
invariant-loop-subscription l =
    string_bytes l.text ++ flat_map (subscription_text (map publication_view l.publications))
    (drop l.subscription-index l.subscriptions)
    ≡ string_bytes l.fn.text ++ flat_map (subscription_text (map publication_view l.publications)) l.subscriptions

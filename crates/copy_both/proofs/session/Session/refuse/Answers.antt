use Rattle.std.proofs.Common.{◌≡◌, List, sym, ap, subst, ◌∙◌}
use Rattle.filter_tree.specs.Expr.{Expr}
use Rattle.pub_catalog.specs.Catalogs.{CatalogOf}
use Rattle.pub_catalog.specs.declared.catalog.Subscription.{Subscription}
use Rattle.shard_checker.specs.CheckedView.{checked_view}
use Rattle.copy_both.specs.Refusals.{CanBeSent}
use Rattle.copy_both.specs.StartOrder.{slot_name, book_refusal}
use Rattle.copy_both.proofs.StartLemmas.{book_is_sent}
use Rattle.copy_both.proofs.session.Session.refuse.Goals as goal

pub append_error_response-requires : goal.append_error_response-requires
append_error_response-requires c =
    let subscriptions : List Subscription = (checked_view c.deref.result.now).catalog.subscriptions in
    let same : c.as_slice-subscriptions.result.now ≡ subscriptions =
    c.as_slice-subscriptions.ensures.value ∙ ap (λ (k : CatalogOf Expr). k.subscriptions) c.catalog.ensures.shows in
    subst CanBeSent (sym (c.book_refusal-refusal.ensures
    ∙ ap (λ (s : List Subscription). book_refusal (slot_name s c.args.slot) c.args.error) same))
    (book_is_sent subscriptions c.args.slot c.args.error c.catalog.ensures.names.subscriptions.plain)

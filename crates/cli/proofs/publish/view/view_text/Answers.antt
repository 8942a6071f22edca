use Rattle.std.proofs.Common.{◌≡◌, ◌∙◌, length, rules, ap}
use Rattle.std.proofs.lemmas.Result.{IfOk-weaker}
use Rattle.filter_tree.specs.Expr.{Expr}
use Rattle.pub_catalog.specs.CatalogView.{catalog_view}
use Rattle.pub_catalog.specs.Catalogs.{CatalogOf}
use Rattle.commands.specs.Output.{text_of}
use Rattle.cli.specs.Views.{view_lines}
use Rattle.cli.proofs.Viewing.{shows}
use Rattle.cli.proofs.publish.view.view_text.Goals as goal

pub returns-clause-text : goal.returns-clause-text
returns-clause-text g c =
    let checked = g.P.Publishing.checked in
    let view = c.in_ok-view.view in
    let lends = c.with_slots_for.ensures.lent in
    let lent = lends.lent in
    let same : catalog_view c.catalog-catalog.result.now ≡ checked.catalog = search rules in
    let shown_tables : c.len.result ≡ length (catalog_view c.catalog-catalog.result.now).tables = search rules in
    let tables : c.len.result ≡ length checked.catalog.tables =
    shown_tables ∙ ap (λ (its : CatalogOf Expr). length its.tables) same in
    let shown_slots : c.len-2.result ≡ length (catalog_view c.catalog-catalog.result.now).subscriptions = search rules in
    let slots : c.len-2.result ≡ length checked.catalog.subscriptions =
    shown_slots ∙ ap (λ (its : CatalogOf Expr). length its.subscriptions) same in
    let seen = rw c.in_ok-view.was at lent.does in
    IfOk-weaker c.shown_text.result _ _
    (λ text is. record {
      lines = view_lines checked.catalog view;
      view = shows checked lent.old lent.transactions lent.named lent.stands c.with_slots_for.new.seat
          lends.log_is lends.noted lent.connections c.len.result c.len-2.result view tables slots lends.slots seen;
      is = is ∙ ap (λ (its : CatalogOf Expr). text_of (view_lines its view)) same;
    })
    c.shown_text.ensures

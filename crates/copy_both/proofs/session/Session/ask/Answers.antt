use Rattle.std.proofs.Common.{◌≡◌, ℕ, List, ap, ◌∙◌}
use Rattle.pub_catalog.specs.CatalogView.{catalog_view}
use Rattle.shard_checker.specs.CheckedView.{checked_view}
use Rattle.shard_checker.specs.declared.checked.Checked.{Checked}
use Rattle.copy_both.specs.Hearing.{offer_in}
use Rattle.copy_both.specs.Sessions.{session_checked, served_by}
use Rattle.copy_both.specs.StartAnswers.{asked_of, start_reported, sent_after}
use Rattle.copy_both.specs.StartOrder.{OfferOf}
use Rattle.copy_both.proofs.StartLemmas.{offer_is}
use Rattle.copy_both.proofs.session.Session.ask.Goals as goal

pub returns-clause-asked : goal.returns-clause-asked
returns-clause-asked c =
    let served = served_by c.args.self.now c.args.book.now in
    let shown : catalog_view c.catalog-catalog.result.now ≡ (session_checked c.args.self.now).catalog =
    c.catalog-catalog.ensures.shows ∙ ap (λ (checked : Checked). (checked_view checked).catalog) c.deref.ensures in
    c.in_ok-answer_start.ensures.asked
    ∙ ap (λ (o : OfferOf). start_reported (asked_of o c.args.frame.now.kind c.as_slice.result.now))
    (offer_is c.catalog-catalog.result.now served c.deref-2.result.now c.deref-3.result.now c.end_of.result
    c.deref-2.ensures.value c.deref-3.ensures.value c.end_of.ensures shown)
    ∙ ap (λ (x : List ℕ). start_reported (asked_of (offer_in served) c.args.frame.now.kind x)) c.as_slice.ensures

pub returns-clause-ok : goal.returns-clause-ok
returns-clause-ok c =
    let served = served_by c.args.self.now c.args.book.now in
    let old : List ℕ = c.args.self.now.response.items in
    let shown : catalog_view c.catalog-catalog.result.now ≡ (session_checked c.args.self.now).catalog =
    c.catalog-catalog.ensures.shows ∙ ap (λ (checked : Checked). (checked_view checked).catalog) c.deref.ensures in
    c.in_ok-answer_start.ensures.ok
    ∙ ap (λ (o : OfferOf). sent_after old (asked_of o c.args.frame.now.kind c.as_slice.result.now))
    (offer_is c.catalog-catalog.result.now served c.deref-2.result.now c.deref-3.result.now c.end_of.result
    c.deref-2.ensures.value c.deref-3.ensures.value c.end_of.ensures shown)
    ∙ ap (λ (x : List ℕ). sent_after old (asked_of (offer_in served) c.args.frame.now.kind x)) c.as_slice.ensures

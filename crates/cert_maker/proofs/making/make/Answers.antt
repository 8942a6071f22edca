use Rattle.std.proofs.Common.{◌≡◌, length, refl}
use Rattle.std.specs.Prelude.{Some, slice_get}
use Rattle.std.proofs.lemmas.Option.{slice_get_read}
use Rattle.pub_catalog.specs.CatalogView.{catalog_view}
use Rattle.replica_identity.specs.Plans.{plan_view}
use Rattle.cert_maker.proofs.AnswerLemmas.{right_answer}
use Rattle.cert_maker.proofs.making.make.Goals as goal

pub returns-in-Ok-clause-cert : goal.returns-in-Ok-clause-cert
returns-in-Ok-clause-cert c =
    let tables = c.deref.result.now in
    let found = c.in-Some.ensures.lookup in
    let read : slice_get tables c.args.table ≡ Some c.in-Some.found.now =
    slice_get_read tables (length tables) c.args.table c.in-Some.found.now refl found.3.0 found.1 in
    let there : slice_get (catalog_view c.args.catalog.now).tables c.args.table ≡ Some c.in-Some.found.now = cc in
    (right_answer (catalog_view c.args.catalog.now) (plan_view c.args.plan.now) c.args.table c.in-Some.found.now
    c.in-Ok.made there c.in-Ok.ensures).cert

pub returns-in-Ok-clause-counter : goal.returns-in-Ok-clause-counter
returns-in-Ok-clause-counter c =
    let tables = c.deref.result.now in
    let found = c.in-Some.ensures.lookup in
    let read : slice_get tables c.args.table ≡ Some c.in-Some.found.now =
    slice_get_read tables (length tables) c.args.table c.in-Some.found.now refl found.3.0 found.1 in
    let there : slice_get (catalog_view c.args.catalog.now).tables c.args.table ≡ Some c.in-Some.found.now = cc in
    (right_answer (catalog_view c.args.catalog.now) (plan_view c.args.plan.now) c.args.table c.in-Some.found.now
    c.in-Ok.made there c.in-Ok.ensures).counter

use Rattle.std.proofs.Common.{rules, inl, inr, ℕ, ◌≡◌, ◌∙◌, List, map, Some, None, OnOk, IfErr, sym, ap, subst}
use Rattle.std.specs.Arc.{arc_value}
use Rattle.std.specs.Io.KnownBytes.{Appends}
use Rattle.filter_tree.specs.Expr.{Expr}
use Rattle.pub_catalog.specs.CatalogView.{catalog_view}
use Rattle.pub_catalog.specs.Catalogs.{CatalogOf}
use Rattle.replica_identity.specs.Plans.{plan_of}
use Rattle.shard_checker.specs.CatalogTruth.{ShardingIsWrong}
use Rattle.shard_checker.specs.CheckedView.{CheckedOf, checked_view}
use Rattle.shard_checker.specs.Texts.{text_fault, texts_view, trees_in}
use Rattle.commands.specs.Verdicts.{IsFirstRefusal, checked_by}
use Rattle.commands.specs.Refusals.{refused_line}
use Rattle.commands.specs.Output.{StopsText, ended}
use Rattle.commands.specs.Parts.{CutTwice, lines_of, three_parts}
use Rattle.cli.proofs.Serving.{catalog_returned, script_returned, served, sharding_refused}
use Rattle.cli.specs.Scripts.{list_view}
use Rattle.cli.specs.Telling.{WritesServeLines, service_of}
use Rattle.cli.proofs.serve.serve_input.Goals as goal

pub returns-in-Ok-clause-ends : goal.returns-in-Ok-clause-ends
returns-in-Ok-clause-ends g c =
    let old = g.W.Writer.contents c.args.writer.now in
    let new = g.W.Writer.contents c.publish.new.writer in
    let cut : CutTwice = record
    { first = c.in_ok-text.text.now; second = c.in_ok-text.certificates.now; third = c.in_ok-text.script.now } in
    let parts : three_parts c.args.input.now ≡ Some cut = search rules in
    let catalog = catalog_view c.in_ok-catalog.catalog in
    let same : texts_view c.as_slice.result.now ≡ lines_of cut.second = ap texts_view c.as_slice.ensures.value
    ∙ c.in_ok-texts.ensures in
    let lists = map list_view c.in_ok-lists.lists.items in
    let kept : checked_view (arc_value c.in_ok-shared-in-Ok.shared) ≡ checked_by catalog = search rules in
    let sound = rw c.in-Ok.is at c.in_ok-verdict.ensures.sound in
    let unrefused = rw c.in-Ok.is at c.in_ok-verdict.ensures.unrefused in
    served c.args.service c.args.input.now cut catalog parts c.in_ok-catalog.ensures.catalog
    (ap (text_fault 1) (sym same) ∙ c.in_ok-verdict.ensures.read)
    lists c.in_ok-lists.ensures.ok old new c.publish.result sound
    (subst (λ (lines : List (List ℕ)). IsFirstRefusal catalog (trees_in lines) None) same unrefused)
    (subst (λ (checked : CheckedOf).
    WritesServeLines (service_of c.args.service checked lists) old new c.publish.result) kept
    c.publish.ensures)

pub returns-in-Ok-clause-failed : goal.returns-in-Ok-clause-failed
returns-in-Ok-clause-failed g c =
    let cut : CutTwice = record
    { first = c.in_ok-text.text.now; second = c.in_ok-text.certificates.now; third = c.in_ok-text.script.now } in
    let parts : three_parts c.args.input.now ≡ Some cut = search rules in
    let catalog = catalog_view c.in_ok-catalog.catalog in
    let same : texts_view c.as_slice.result.now ≡ lines_of cut.second = ap texts_view c.as_slice.ensures.value
    ∙ c.in_ok-texts.ensures in
    let unrefused = rw c.in-Ok.is at c.in_ok-verdict.ensures.unrefused in
    inl (record {
      cut = cut;
      catalog = catalog;
      parts = parts;
      reads = c.in_ok-catalog.ensures.catalog;
      certificates = ap (text_fault 1) (sym same) ∙ c.in_ok-verdict.ensures.read;
      lists = map list_view c.in_ok-lists.lists.items;
      script = c.in_ok-lists.ensures.ok;
      sound = rw c.in-Ok.is at c.in_ok-verdict.ensures.sound;
      unrefused = subst (λ (lines : List (List ℕ)). IsFirstRefusal catalog (trees_in lines) None) same unrefused;
    })

pub returns-clause-ends : goal.returns-clause-ends
returns-clause-ends g c =
    let old = g.W.Writer.contents c.args.writer.now in
    let new = g.W.Writer.contents c.write_refused.new.writer in
    let result = c.write_refused.result in
    let refusal = c.in-Err.refusal in
    let cut : CutTwice = record
    { first = c.in_ok-text.text.now; second = c.in_ok-text.certificates.now; third = c.in_ok-text.script.now } in
    let parts : three_parts c.args.input.now ≡ Some cut = search rules in
    let catalog = catalog_view c.in_ok-catalog.catalog in
    let again : catalog_view c.in_ok-catalog-in-Err.catalog ≡ catalog =
    cc (c.in_ok-catalog.ensures.catalog, c.in_ok-catalog-in-Err.ensures.catalog) in
    let same : texts_view c.as_slice.result.now ≡ lines_of cut.second = ap texts_view c.as_slice.ensures.value
    ∙ c.in_ok-texts.ensures in
    let first = rw c.in-Err.is at c.in_ok-verdict.ensures.refused in
    let wrong = rw c.in-Err.is at c.in_ok-verdict.ensures.wrong in
    sharding_refused c.args.service c.args.input.now cut catalog parts c.in_ok-catalog.ensures.catalog
    (ap (text_fault 1) (sym same) ∙ c.in_ok-verdict.ensures.read)
    (map list_view c.in_ok-lists.lists.items) c.in_ok-lists.ensures.ok refusal old new result
    (subst (λ (lines : List (List ℕ)). IsFirstRefusal catalog (trees_in lines) (Some refusal)) same first)
    (subst (λ (lines : List (List ℕ)). ShardingIsWrong catalog (plan_of catalog) (trees_in lines) refusal) same wrong)
    c.write_refused.ensures.status
    (subst (λ (named : CatalogOf Expr). OnOk result (Appends old new (ended (refused_line named refusal)))) again
    c.write_refused.ensures.written)
    (subst (λ (named : CatalogOf Expr). IfErr result (StopsText (ended (refused_line named refusal)) old new)) again
    c.write_refused.ensures.stopped)

pub returns-clause-failed : goal.returns-clause-failed
returns-clause-failed g c = inr c.write_refused.ensures.failed

pub returns-in_err-lists-clause-ends : goal.returns-in_err-lists-clause-ends
returns-in_err-lists-clause-ends g c =
    let cut : CutTwice = record
    { first = c.in_ok-text.text.now; second = c.in_ok-text.certificates.now; third = c.in_ok-text.script.now } in
    let parts : three_parts c.args.input.now ≡ Some cut = search rules in
    let same : texts_view c.as_slice.result.now ≡ lines_of cut.second = ap texts_view c.as_slice.ensures.value
    ∙ c.in_ok-texts.ensures in
    script_returned c.args.service c.args.input.now cut (catalog_view c.in_ok-catalog.catalog) parts
    c.in_ok-catalog.ensures.catalog
    (ap (text_fault 1) (sym same) ∙ c.in_ok-verdict.ensures.read)
    (g.W.Writer.contents c.args.writer.now) c.in_err-lists.field-0.0 c.from_residual-in_err-lists.result
    c.in_err-lists.ensures.err c.from_residual-in_err-lists.ensures.1

pub returns-in_err-catalog-in-Err-clause-ends : goal.returns-in_err-catalog-in-Err-clause-ends
returns-in_err-catalog-in-Err-clause-ends g c =
    let cut : CutTwice = record
    { first = c.in_ok-text.text.now; second = c.in_ok-text.certificates.now; third = c.in_ok-text.script.now } in
    let parts : three_parts c.args.input.now ≡ Some cut = search rules in
    catalog_returned c.args.service c.args.input.now cut parts (g.W.Writer.contents c.args.writer.now)
    c.in_err-catalog-in-Err.field-0.0 c.in_err-catalog-in-Err.ensures.catalog
    c.from_residual-in_err-catalog-in-Err.result c.from_residual-in_err-catalog-in-Err.ensures.1

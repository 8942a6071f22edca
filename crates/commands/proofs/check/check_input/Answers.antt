use Rattle.std.proofs.Common.{rules, ℕ, ◌≡◌, ◌∙◌, ◌++◌, List, Some, None, OnOk, IfErr, sym, ap, subst}
use Rattle.std.specs.Io.KnownBytes.{Appends}
use Rattle.std.specs.String.{string_bytes}
use Rattle.filter_tree.specs.Expr.{Expr}
use Rattle.pub_catalog.specs.CatalogView.{catalog_view}
use Rattle.pub_catalog.specs.Catalogs.{CatalogOf}
use Rattle.replica_identity.specs.Plans.{plan_of}
use Rattle.shard_checker.specs.CatalogTruth.{ShardingIsWrong}
use Rattle.shard_checker.specs.Texts.{text_fault, texts_view, trees_in}
use Rattle.commands.proofs.CheckVerdicts.{accepted, refused}
use Rattle.commands.specs.Verdicts.{IsFirstRefusal}
use Rattle.commands.specs.Refusals.{refused_line}
use Rattle.commands.specs.Output.{StopsText, ended}
use Rattle.commands.specs.Parts.{CutOnce, lines_of, two_parts}
use Rattle.commands.proofs.check.check_input.Goals as goal

pub returns-in-Ok-clause-ends : goal.returns-in-Ok-clause-ends
returns-in-Ok-clause-ends g c =
    let cut : CutOnce = record { part = c.in_ok-text.text.now; rest = c.in_ok-text.lines.now } in
    let parts : two_parts c.args.input.now ≡ Some cut = search rules in
    let catalog = catalog_view c.in_ok-catalog.catalog in
    let same : texts_view c.as_slice.result.now ≡ lines_of cut.rest = ap texts_view c.as_slice.ensures.value
    ∙ c.in_ok-texts.ensures in
    let sound = rw c.in-Ok.is at c.in_ok-verdict_of.ensures.sound in
    let first = rw c.in-Ok.is at c.in_ok-verdict_of.ensures.unrefused in
    accepted c.args.shows c.args.input.now cut catalog parts c.in_ok-catalog.ensures.catalog
    (ap (text_fault 1) (sym same) ∙ c.in_ok-verdict_of.ensures.read) (string_bytes c.in_ok-shown.shown)
    c.in_ok-shown.ensures
    (g.W.Writer.contents c.args.writer.now) (g.W.Writer.contents c.write_accepted.new.writer) c.write_accepted.result
    sound
    (subst (λ (lines : List (List ℕ)). IsFirstRefusal catalog (trees_in lines) None) same first)
    c.write_accepted.ensures.status c.write_accepted.ensures.written c.write_accepted.ensures.stopped

pub returns-clause-ends : goal.returns-clause-ends
returns-clause-ends g c =
    let old = g.W.Writer.contents c.args.writer.now in
    let new = g.W.Writer.contents c.write_refusal.new.writer in
    let result = c.write_refusal.result in
    let refusal = c.in-Err.refusal in
    let cut : CutOnce = record { part = c.in_ok-text.text.now; rest = c.in_ok-text.lines.now } in
    let parts : two_parts c.args.input.now ≡ Some cut = search rules in
    let catalog = catalog_view c.in_ok-catalog.catalog in
    let again : catalog_view c.in_ok-catalog-in-Err.catalog ≡ catalog =
    cc (c.in_ok-catalog.ensures.catalog, c.in_ok-catalog-in-Err.ensures.catalog) in
    let same : texts_view c.as_slice.result.now ≡ lines_of cut.rest = ap texts_view c.as_slice.ensures.value
    ∙ c.in_ok-texts.ensures in
    let first = rw c.in-Err.is at c.in_ok-verdict_of.ensures.refused in
    let wrong = rw c.in-Err.is at c.in_ok-verdict_of.ensures.wrong in
    let text = string_bytes c.in_ok-shown.shown in
    refused c.args.shows c.args.input.now cut catalog parts c.in_ok-catalog.ensures.catalog
    (ap (text_fault 1) (sym same) ∙ c.in_ok-verdict_of.ensures.read) text c.in_ok-shown.ensures
    refusal old new result
    (subst (λ (lines : List (List ℕ)). IsFirstRefusal catalog (trees_in lines) (Some refusal)) same first)
    (subst (λ (lines : List (List ℕ)). ShardingIsWrong catalog (plan_of catalog) (trees_in lines) refusal) same wrong)
    c.write_refusal.ensures.status
    (subst (λ (named : CatalogOf Expr). OnOk result (Appends old new (ended (text ++ refused_line named refusal)))) again
    c.write_refusal.ensures.written)
    (subst (λ (named : CatalogOf Expr). IfErr result (StopsText (ended (text ++ refused_line named refusal)) old new)) again
    c.write_refusal.ensures.stopped)

use Rattle.std.proofs.Common.{inl, inr, ◌≡◌, ◌∙◌, ℕ, List, Option, Some, None, OnOk, IfErr, ap, subst, sym}
use Rattle.std.specs.Prelude.{Ok}
use Rattle.std.specs.Io.KnownBytes.{Appends}
use Rattle.std.specs.String.{string_bytes}
use Rattle.filter_tree.specs.Expr.{Expr}
use Rattle.pub_catalog.specs.CatalogView.{catalog_view}
use Rattle.pub_catalog.specs.Catalogs.{CatalogOf}
use Rattle.pub_reader.specs.Statements.{catalog_by}
use Rattle.replica_identity.specs.Plans.{plan_of}
use Rattle.shard_checker.specs.CatalogTruth.{ShardingIsWrong}
use Rattle.shard_checker.specs.CheckedView.{CheckedOf, checked_view}
use Rattle.shard_checker.specs.Texts.{text_fault, texts_view, trees_in}
use Rattle.sql_reader.specs.Written.{as_filter}
use Rattle.commands.specs.Output.{StopsText, ended}
use Rattle.commands.specs.Parts.{lines_of}
use Rattle.commands.specs.Refusals.{refused_line}
use Rattle.commands.specs.Verdicts.{IsFirstRefusal}
use Rattle.cli.proofs.Heads.{accepted, catalog_returned, certificate_returned, first_returned, second_returned, served, sharding_refused}
use Rattle.cli.specs.Incoming.{coming}
use Rattle.cli.specs.Lines.{ReadsPart, StopsPart}
use Rattle.cli.specs.Published.{Serves}
use Rattle.cli.proofs.publish.publish_input.Goals as goal

pub returns-in_err-text-clause-ends : goal.returns-in_err-text-clause-ends
returns-in_err-text-clause-ends g c =
    let read = g.I.Read.remaining in
    let known = read c.args.input in
    let old = g.W.Writer.contents c.args.writer.now in
    let same = c.in-Ok.ensures in
    let mid = coming read c.read_part.new.lines in
    first_returned g.I.Reader.may_fail c.args.feed known old mid c.in_err-text.field-0.0 c.from_residual.result
    (subst (λ (k : Option (List ℕ)). StopsPart g.I.Reader.may_fail k mid c.in_err-text.field-0.0) same c.in_err-text.ensures.err)
    c.from_residual.ensures.1

pub returns-in_err-certificates-clause-ends : goal.returns-in_err-certificates-clause-ends
returns-in_err-certificates-clause-ends g c =
    let read = g.I.Read.remaining in
    let known = read c.args.input in
    let old = g.W.Writer.contents c.args.writer.now in
    let same = c.in-Ok.ensures in
    let mid = coming read c.read_part.new.lines in
    let left = coming read c.read_part-2.new.lines in
    let first : ReadsPart known mid (string_bytes c.in_ok-text.text) =
    subst (λ (k : Option (List ℕ)). ReadsPart k mid (string_bytes c.in_ok-text.text)) same c.in_ok-text.ensures.ok in
    second_returned g.I.Reader.may_fail c.args.feed known old mid left (string_bytes c.in_ok-text.text) c.in_err-certificates.field-0.0
    c.from_residual-in_err-certificates.result first c.in_err-certificates.ensures.err
    c.from_residual-in_err-certificates.ensures.1

pub returns-in_err-catalog-clause-ends : goal.returns-in_err-catalog-clause-ends
returns-in_err-catalog-clause-ends g c =
    let read = g.I.Read.remaining in
    let known = read c.args.input in
    let old = g.W.Writer.contents c.args.writer.now in
    let same = c.in-Ok.ensures in
    let mid = coming read c.read_part.new.lines in
    let left = coming read c.read_part-2.new.lines in
    let first : ReadsPart known mid (string_bytes c.in_ok-text.text) =
    subst (λ (k : Option (List ℕ)). ReadsPart k mid (string_bytes c.in_ok-text.text)) same c.in_ok-text.ensures.ok in
    let certificates = string_bytes c.in_ok-certificates.certificates in
    catalog_returned g.I.Reader.may_fail c.args.feed known old mid left (string_bytes c.in_ok-text.text) certificates first
    c.in_ok-certificates.ensures.ok c.in_err-catalog.field-0.0
    (rw c.as_str.ensures.value at c.in_err-catalog.ensures.catalog) c.from_residual-in_err-catalog.result
    c.from_residual-in_err-catalog.ensures.1

pub returns-in_err-checked-clause-ends : goal.returns-in_err-checked-clause-ends
returns-in_err-checked-clause-ends g c =
    let read = g.I.Read.remaining in
    let known = read c.args.input in
    let old = g.W.Writer.contents c.args.writer.now in
    let same = c.in-Ok.ensures in
    let mid = coming read c.read_part.new.lines in
    let left = coming read c.read_part-2.new.lines in
    let first : ReadsPart known mid (string_bytes c.in_ok-text.text) =
    subst (λ (k : Option (List ℕ)). ReadsPart k mid (string_bytes c.in_ok-text.text)) same c.in_ok-text.ensures.ok in
    let certificates = string_bytes c.in_ok-certificates.certificates in
    let catalog = catalog_view c.in_ok-catalog.catalog in
    let reads : catalog_by as_filter (string_bytes c.in_ok-text.text) ≡ Ok catalog =
    rw c.as_str.ensures.value at c.in_ok-catalog.ensures.catalog in
    let lines : texts_view c.as_slice.result.now ≡ lines_of certificates =
    ap texts_view c.as_slice.ensures.value ∙ c.in_ok-texts.ensures ∙ ap lines_of c.as_str-2.ensures.value in
    certificate_returned g.I.Reader.may_fail c.args.feed known old mid left (string_bytes c.in_ok-text.text) certificates first
    c.in_ok-certificates.ensures.ok catalog reads c.in_err-checked.field-0.0 c.from_residual-in_err-checked.result
    (rw lines at c.in_err-checked.ensures.err) c.from_residual-in_err-checked.ensures.1

pub returns-in-Ok-2-clause-ends : goal.returns-in-Ok-2-clause-ends
returns-in-Ok-2-clause-ends g c =
    let read = g.I.Read.remaining in
    let known = read c.args.input in
    let old = g.W.Writer.contents c.args.writer.now in
    let same = c.in-Ok.ensures in
    let mid = coming read c.read_part.new.lines in
    let left = coming read c.read_part-2.new.lines in
    let first : ReadsPart known mid (string_bytes c.in_ok-text.text) =
    subst (λ (k : Option (List ℕ)). ReadsPart k mid (string_bytes c.in_ok-text.text)) same c.in_ok-text.ensures.ok in
    let certificates = string_bytes c.in_ok-certificates.certificates in
    let catalog = catalog_view c.in_ok-catalog.catalog in
    let reads : catalog_by as_filter (string_bytes c.in_ok-text.text) ≡ Ok catalog =
    rw c.as_str.ensures.value at c.in_ok-catalog.ensures.catalog in
    let lines : texts_view c.as_slice.result.now ≡ lines_of certificates =
    ap texts_view c.as_slice.ensures.value ∙ c.in_ok-texts.ensures ∙ ap lines_of c.as_str-2.ensures.value in
    let faultless : text_fault 1 (lines_of certificates) ≡ None =
    ap (text_fault 1) (sym lines) ∙ c.in_ok-checked.ensures.read in
    let sound = rw c.in-Ok-2.is at c.in_ok-checked.ensures.sound in
    let kept = rw c.in-Ok-2.is at c.in_ok-checked.ensures.kept in
    let unrefused = rw c.in-Ok-2.is at c.in_ok-checked.ensures.unrefused in
    let later = coming read c.publish.new.lines in
    served g.I.Reader.may_fail c.args.feed known old mid left (string_bytes c.in_ok-text.text) certificates first
    c.in_ok-certificates.ensures.ok catalog reads faultless sound
    (subst (λ (l : List (List ℕ)). IsFirstRefusal catalog (trees_in l) None) lines unrefused) later
    (g.W.Writer.contents c.publish.new.writer) c.publish.result
    (subst (λ (checked : CheckedOf). Serves c.args.feed checked left later g.I.Reader.may_fail old (g.W.Writer.contents c.publish.new.writer)
    c.publish.result) (ap checked_view c.in_ok-shared-in-Ok-2.ensures.ok ∙ kept) c.publish.ensures)

pub returns-in-Ok-2-clause-failed : goal.returns-in-Ok-2-clause-failed
returns-in-Ok-2-clause-failed g c =
    let read = g.I.Read.remaining in
    let known = read c.args.input in
    let old = g.W.Writer.contents c.args.writer.now in
    let same = c.in-Ok.ensures in
    let mid = coming read c.read_part.new.lines in
    let left = coming read c.read_part-2.new.lines in
    let first : ReadsPart known mid (string_bytes c.in_ok-text.text) =
    subst (λ (k : Option (List ℕ)). ReadsPart k mid (string_bytes c.in_ok-text.text)) same c.in_ok-text.ensures.ok in
    let certificates = string_bytes c.in_ok-certificates.certificates in
    let catalog = catalog_view c.in_ok-catalog.catalog in
    let reads : catalog_by as_filter (string_bytes c.in_ok-text.text) ≡ Ok catalog =
    rw c.as_str.ensures.value at c.in_ok-catalog.ensures.catalog in
    let lines : texts_view c.as_slice.result.now ≡ lines_of certificates =
    ap texts_view c.as_slice.ensures.value ∙ c.in_ok-texts.ensures ∙ ap lines_of c.as_str-2.ensures.value in
    let faultless : text_fault 1 (lines_of certificates) ≡ None =
    ap (text_fault 1) (sym lines) ∙ c.in_ok-checked.ensures.read in
    let sound = rw c.in-Ok-2.is at c.in_ok-checked.ensures.sound in
    let unrefused = rw c.in-Ok-2.is at c.in_ok-checked.ensures.unrefused in
    inl (accepted g.I.Reader.may_fail c.args.feed known old mid left (string_bytes c.in_ok-text.text) certificates first
    c.in_ok-certificates.ensures.ok catalog reads faultless sound
    (subst (λ (l : List (List ℕ)). IsFirstRefusal catalog (trees_in l) None) lines unrefused))

pub returns-clause-ends : goal.returns-clause-ends
returns-clause-ends g c =
    let read = g.I.Read.remaining in
    let known = read c.args.input in
    let old = g.W.Writer.contents c.args.writer.now in
    let same = c.in-Ok.ensures in
    let mid = coming read c.read_part.new.lines in
    let left = coming read c.read_part-2.new.lines in
    let first : ReadsPart known mid (string_bytes c.in_ok-text.text) =
    subst (λ (k : Option (List ℕ)). ReadsPart k mid (string_bytes c.in_ok-text.text)) same c.in_ok-text.ensures.ok in
    let certificates = string_bytes c.in_ok-certificates.certificates in
    let catalog = catalog_view c.in_ok-catalog.catalog in
    let reads : catalog_by as_filter (string_bytes c.in_ok-text.text) ≡ Ok catalog =
    rw c.as_str.ensures.value at c.in_ok-catalog.ensures.catalog in
    let lines : texts_view c.as_slice.result.now ≡ lines_of certificates =
    ap texts_view c.as_slice.ensures.value ∙ c.in_ok-texts.ensures ∙ ap lines_of c.as_str-2.ensures.value in
    let faultless : text_fault 1 (lines_of certificates) ≡ None =
    ap (text_fault 1) (sym lines) ∙ c.in_ok-checked.ensures.read in
    let new = g.W.Writer.contents c.write_refused.new.writer in
    let result = c.write_refused.result in
    let refusal = c.in-Err.refusal in
    let again : catalog_view c.in_ok-catalog-in-Err.catalog ≡ catalog = cc (
      reads,
      (rw c.as_str-in-Err.ensures.value at c.in_ok-catalog-in-Err.ensures.catalog),
    ) in
    let refused = rw c.in-Err.is at c.in_ok-checked.ensures.refused in
    let wrong = rw c.in-Err.is at c.in_ok-checked.ensures.wrong in
    sharding_refused g.I.Reader.may_fail c.args.feed known old mid left (string_bytes c.in_ok-text.text) certificates first
    c.in_ok-certificates.ensures.ok catalog reads faultless refusal new result
    (subst (λ (l : List (List ℕ)). IsFirstRefusal catalog (trees_in l) (Some refusal)) lines refused)
    (subst (λ (l : List (List ℕ)). ShardingIsWrong catalog (plan_of catalog) (trees_in l) refusal) lines wrong)
    c.write_refused.ensures.status
    (subst (λ (named : CatalogOf Expr). OnOk result (Appends old new (ended (refused_line named refusal)))) again
    c.write_refused.ensures.written)
    (subst (λ (named : CatalogOf Expr). IfErr result (StopsText (ended (refused_line named refusal)) old new)) again
    c.write_refused.ensures.stopped)

pub returns-clause-failed : goal.returns-clause-failed
returns-clause-failed g c = inr c.write_refused.ensures.failed

use Rattle.std.proofs.Common.{rules, ◌≡◌, ◌++◌, ◌∷◌, [], ◌∙◌, List, ℕ, ap, map, sym}
use Rattle.std.proofs.lemmas.List.{map-append}
use Rattle.std.proofs.lemmas.Result.{IfOk-weaker}
use Rattle.std.specs.Prelude.{None, Ok, Some}
use Rattle.std.specs.String.{string_bytes}
use Rattle.pub_catalog.specs.CatalogView.{catalog_view}
use Rattle.pub_reader.specs.ScriptView.{line_view}
use Rattle.pub_reader.specs.Scripts.{LineOf}
use Rattle.cli.proofs.LineAnswers.{empty, is_one, no_script, one_step, unfit}
use Rattle.cli.specs.Talks.{first_unfit}
use Rattle.cli.proofs.publish.session.line_text.Goals as goal

pub returns-in-Err-Input : goal.returns-in-Err-Input
returns-in-Err-Input g c =
    let tables = (catalog_view c.catalog-catalog.result.now).tables in
    let same : tables ≡ g.P.Publishing.checked.catalog.tables = search rules in
    IfOk-weaker c.fault_text.result _ _
    (λ text is. no_script g.P.Publishing.checked g.P.Publishing.limit c.args.line.now c.args.seat.now tables same
    c.in-Err-Input.fault (string_bytes text) (rw c.in-Err-Input.field-0-is at c.in-Err-Input.ensures.err) is)
    c.fault_text.ensures

pub returns-in-Some : goal.returns-in-Some
returns-in-Some g c =
    let tables = (catalog_view c.catalog-catalog.result.now).tables in
    let same : tables ≡ g.P.Publishing.checked.catalog.tables = search rules in
    let first : first_unfit (map line_view c.in-Ok.steps.items) ≡ Some c.in-Some.place = search rules in
    IfOk-weaker c.fault_text-in-Some.result _ _
    (λ text is. unfit g.P.Publishing.checked g.P.Publishing.limit c.args.line.now c.args.seat.now tables same
    (map line_view c.in-Ok.steps.items) c.unfit_at.result (string_bytes text) c.in-Ok.ensures.read
    (first ∙ ap (λ (place : ℕ). Some place) (sym c.unfit_at.ensures.place)) c.unfit_at.ensures.kind is)
    c.fault_text-in-Some.ensures

pub returns-in-None : goal.returns-in-None
returns-in-None g c =
    let tables = (catalog_view c.catalog-catalog.result.now).tables in
    let same : tables ≡ g.P.Publishing.checked.catalog.tables = search rules in
    let none : map line_view c.in-Ok.steps.items ≡ [] = search rules in
    empty g.P.Publishing.checked g.P.Publishing.limit c.args.line.now c.args.seat.now tables same
    (string_bytes c.new.result) (c.in-Ok.ensures.read ∙ ap (λ (l : List LineOf). Ok l) none) c.new.ensures.bytes

pub step_text-requires : goal.step_text-requires
step_text-requires g c =
    let steps = map line_view c.pop.new.self.items in
    let all : map line_view c.in-Ok.steps.items ≡ steps ++ line_view c.in-Some-pop.line ∷ [] =
    ap (map line_view) c.in-Some-pop.ensures.items ∙ map-append line_view c.pop.new.self.items (c.in-Some-pop.line ∷ []) in
    let none : first_unfit (map line_view c.in-Ok.steps.items) ≡ None = search rules in
    let one = is_one steps (line_view c.in-Some-pop.line) (sym (ap first_unfit all) ∙ none) in
    one.1

pub returns : goal.returns
returns g c =
    let tables = (catalog_view c.catalog-catalog.result.now).tables in
    let same : tables ≡ g.P.Publishing.checked.catalog.tables = search rules in
    let steps = map line_view c.pop.new.self.items in
    let all : map line_view c.in-Ok.steps.items ≡ steps ++ line_view c.in-Some-pop.line ∷ [] =
    ap (map line_view) c.in-Some-pop.ensures.items ∙ map-append line_view c.pop.new.self.items (c.in-Some-pop.line ∷ []) in
    let none : first_unfit (map line_view c.in-Ok.steps.items) ≡ None = search rules in
    let one = is_one steps (line_view c.in-Some-pop.line) (sym (ap first_unfit all) ∙ none) in
    let only : map line_view c.in-Ok.steps.items ≡ line_view c.in-Some-pop.line ∷ [] =
    all ∙ ap (λ (l : List LineOf). l ++ line_view c.in-Some-pop.line ∷ []) one.0 in
    IfOk-weaker c.step_text.result _ _
    (λ text is. one_step g.P.Publishing.checked g.P.Publishing.limit c.args.line.now c.args.seat.now tables same
    (line_view c.in-Some-pop.line) (string_bytes text) c.step_text.new.seat
    (c.in-Ok.ensures.read ∙ ap (λ (l : List LineOf). Ok l) only) is)
    c.step_text.ensures

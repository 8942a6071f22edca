use Rattle.std.proofs.Common.{sym, subst, ap, ◌∙◌, ◌≡◌}
use Rattle.std.proofs.lemmas.Result.{IfOk-weaker}
use Rattle.filter_tree.specs.Expr as e
use Rattle.filter_tree.specs.Expr.{Expr}
use Rattle.filter_tree.specs.Shape.{atoms_view, expr_view}
use Rattle.shard_checker.specs.Steps.{Adds, Compiles}
use Rattle.shard_checker.specs.declared.steps.FormulaNode.TheVariants.{Is}
use Rattle.shard_checker.proofs.StepLemmas.{compiled_is}
use Rattle.shard_checker.proofs.steps.+compile.Goals as goal

-- the part exists, and the test after it
pub returns-in_ok-part-in-Is : goal.returns-in_ok-part-in-Is
returns-in_ok-part-in-Is g t c =
    let atoms = atoms_view c.args.atoms.now in
    let old = c.args.steps.now.list.items in
    let number = c.in_ok-part-in-Is.part in
    let middle = c.compile-in-Is.new.steps.list.items in
    let new = c.add-in-Is.new.self.list.items in
    let part = expr_view c.deref-in-Is.result.now in
    let whole : expr_view c.args.filter.now ≡ e.Is c.in-Is.test part = ap expr_view c.in-Is.is
    ∙ sym (ap (λ f. e.Is c.in-Is.test (expr_view f)) c.deref-in-Is.ensures) in
    IfOk-weaker c.add-in-Is.result (λ place. Adds middle new place (Is c.in-Is.test number))
    (λ place. Compiles atoms old new place (expr_view c.args.filter.now))
    (λ place added. subst (λ (filter : Expr). Compiles atoms old new place filter) (sym whole)
    (compiled_is atoms old new place middle number part c.in_ok-part-in-Is.ensures c.in-Is.test added))
    c.add-in-Is.ensures

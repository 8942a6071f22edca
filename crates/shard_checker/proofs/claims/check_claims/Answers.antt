use Rattle.std.proofs.Common.{◌≡◌, ◌∙◌, List, rules, sym, ap, subst}
use Rattle.shard_checker.specs.Checks.{Checks}
use Rattle.shard_checker.specs.Claims.{AreDetermined, claims_refusal, refusal_due}
use Rattle.shard_checker.specs.LeafMasks.{all_at}
use Rattle.shard_checker.specs.Refusal.{subject_view}
use Rattle.shard_checker.specs.declared.steps.FormulaNode.{FormulaNode}
use Rattle.shard_checker.proofs.ClaimLemmas.{due_if_determined}
use Rattle.shard_checker.proofs.claims.check_claims.Goals as goal

-- what the steps may be at the leaves says what is wrong
pub returns-in_err-check_each : goal.returns-in_err-check_each
returns-in_err-check_each g c =
    let subject = subject_view c.args.subject.now in
    let formulas = c.args.subject.now.formulas.now in
    let made = c.tell.new.self in
    let same : claims_refusal subject formulas.roots.items (λ leaf. all_at leaf c.deref-2.result.now) 0
    c.deref-3.result.now ≡ refusal_due subject formulas c.args.claims.now =
    ap (λ masks. claims_refusal subject formulas.roots.items (λ leaf. all_at leaf masks) 0 c.deref-3.result.now)
    c.deref-2.ensures.value
    ∙ ap (claims_refusal subject formulas.roots.items (λ leaf. all_at leaf made.steps.items) 0) c.deref-3.ensures.value
    ∙ due_if_determined subject formulas c.args.claims.now made c.requires c.tell.ensures.list c.tell.ensures.atoms
    (subst (λ (steps : List FormulaNode). AreDetermined steps made) c.deref.ensures.value c.in_ok-tell.ensures.steps) in
    subst (λ refusal. Checks refusal c.from_residual-in_err-check_each.result) same (search rules)

pub returns : goal.returns
returns g c =
    let subject = subject_view c.args.subject.now in
    let formulas = c.args.subject.now.formulas.now in
    let made = c.tell.new.self in
    let same : claims_refusal subject formulas.roots.items (λ leaf. all_at leaf c.deref-2.result.now) 0
    c.deref-3.result.now ≡ refusal_due subject formulas c.args.claims.now =
    ap (λ masks. claims_refusal subject formulas.roots.items (λ leaf. all_at leaf masks) 0 c.deref-3.result.now)
    c.deref-2.ensures.value
    ∙ ap (claims_refusal subject formulas.roots.items (λ leaf. all_at leaf made.steps.items) 0) c.deref-3.ensures.value
    ∙ due_if_determined subject formulas c.args.claims.now made c.requires c.tell.ensures.list c.tell.ensures.atoms
    (subst (λ (steps : List FormulaNode). AreDetermined steps made) c.deref.ensures.value c.in_ok-tell.ensures.steps) in
    sym same ∙ c.in_ok-check_each.ensures

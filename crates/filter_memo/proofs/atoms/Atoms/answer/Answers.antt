use Rattle.std.proofs.Common.{rules, ◌≡◌, true, Option, Some, None, List, ℕ, subst}
use Rattle.std.specs.Prelude.{IfSome, slice_get}
use Rattle.filter_tree.specs.declared.tri.Tri.{Tri}
use Rattle.filter_memo.specs.Branches.{LeadTo}
use Rattle.filter_memo.specs.declared.branches.Branch.{Branch}
use Rattle.filter_memo.proofs.AtomLemmas.{branches_say}
use Rattle.filter_memo.proofs.atoms.Atoms.answer.Goals as goal

if_some : {X : Type 0} {P Q : X → Type 0} (found : Option X) → ((x : X) → P x → Q x) → IfSome found P → IfSome found Q
if_some None gives has = tt
if_some (Some x) gives has = gives x has

pub returns : goal.returns
returns c =
    let used : c.args.self.now.is_used ≡ true = search rules in
    let found : slice_get c.args.self.now.plan.starts.items c.args.number ≡ Some c.in_ok-start.start =
    subst (λ (starts : List ℕ). slice_get starts c.args.number ≡ Some c.in_ok-start.start) c.deref.ensures.value
    c.in_ok-start.ensures in
    if_some c.run.result
    (λ tri is_one filters row filter is located asked.
    branches_say c.args.self.now filters is used row c.args.said c.args.number c.in_ok-start.start filter tri located
    found asked
    (subst (λ (branches : List Branch). (other : Tri) → LeadTo branches c.args.said other c.in_ok-start.start
    → tri ≡ other) c.deref-2.ensures.value is_one))
    c.run.ensures

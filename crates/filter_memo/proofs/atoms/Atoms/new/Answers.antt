use Rattle.std.proofs.Common.{rules, ◌≡◌, true, List, Global, length, subst}
use Rattle.std.specs.Prelude.{IfSome}
use Rattle.filter_tree.specs.declared.filter.Filter.{Filter}
use Rattle.filter_memo.specs.Plans.{ArePlans, filters_view}
use Rattle.filter_memo.specs.Telling.{AreSettled, AreEvaluated}
use Rattle.filter_memo.proofs.Judging.{evaluated_as}
use Rattle.filter_memo.proofs.AtomLemmas.{fresh}
use Rattle.filter_memo.proofs.atoms.Atoms.new.Goals as goal

pub returns-in_default : goal.returns-in_default
returns-in_default c = c.unused.ensures (filters_view c.args.filters.now)

pub returns-then-not-are_evaluated : goal.returns-then-not-are_evaluated
returns-then-not-are_evaluated c = c.unused-then-not-are_evaluated.ensures (filters_view c.args.filters.now)

pub returns : goal.returns
returns c =
    let tested : c.are_evaluated.result ≡ true = search rules in
    let count : c.len.result ≡ length c.in_ok-parts.parts.items = search rules in
    let settled : AreSettled c.in_ok-parts.parts.items c.in_ok-all_breakpoints.all_breakpoints.items =
    subst (λ (parts : List (Filter Global)). AreSettled parts c.in_ok-all_breakpoints.all_breakpoints.items)
    c.deref-2.ensures.value
    c.in_ok-all_breakpoints.ensures in
    let evaluated : AreEvaluated c.in_ok-all_breakpoints.all_breakpoints.items (length c.in_ok-parts.parts.items) =
    evaluated_as c.deref-3.result.now c.in_ok-all_breakpoints.all_breakpoints.items c.len.result
    (length c.in_ok-parts.parts.items)
    c.deref-3.ensures.value count (c.are_evaluated.ensures tested) in
    let planned : ArePlans c.deref.result.now (filters_view c.args.filters.now) c.in-Some.plan.branches.items
    c.in-Some.plan.starts.items =
    subst (λ found. IfSome found (λ plan.
    ArePlans c.deref.result.now (filters_view c.args.filters.now) plan.branches.items plan.starts.items))
    c.in-Some.is c.in_ok-plan.ensures in
    let plans : ArePlans c.in_ok-parts.parts.items (filters_view c.args.filters.now) c.in-Some.plan.branches.items
    c.in-Some.plan.starts.items =
    subst (λ (parts : List (Filter Global)).
    ArePlans parts (filters_view c.args.filters.now) c.in-Some.plan.branches.items c.in-Some.plan.starts.items)
    c.deref.ensures.value planned in
    fresh _ (filters_view c.args.filters.now) settled c.in_ok-cells.ensures evaluated plans

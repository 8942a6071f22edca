use Rattle.std.proofs.Common.{rules, ◌≡◌, ◌++◌, ◌∷◌, [], Result, Ok, Err, ap, ◌∙◌}
use Rattle.std.specs.Prelude.{IfOk}
use Rattle.filter_tree.specs.Shape.{expr_view}
use Rattle.filter_memo.specs.Plans.{IsAdded}
use Rattle.filter_memo.specs.Branches.{of_null_and, of_null_or, of_first_and, of_first_or}
use Rattle.filter_memo.specs.declared.branches.Branch.TheVariants.{Test}
use Rattle.filter_memo.proofs.Planning.{clause_branch, negated_branch, and_branches, and_null_branches, or_branches, or_null_branches}
use Rattle.filter_memo.proofs.plan.+add_branches.Goals as goal

if_ok : {X E : Type 0} {P Q : X → Type 0} (result : Result X E) → ((x : X) → P x → Q x) → IfOk result P
    → IfOk result Q
if_ok (Ok x) gives has = gives x has
if_ok (Err e) gives has = tt

pub returns-in-Some : goal.returns-in-Some
returns-in-Some t c =
    clause_branch c.args.parts.now (expr_view c.args.filter.now) c.args.exits c.in-Some.clause c.args.branches.now.items
    c.add_test.new.branches.items c.in_ok-add_test.field-0 c.in-Some.ensures c.in_ok-add_test.ensures.branches
    c.in_ok-add_test.ensures.number

pub returns-in-Some-clause_of : goal.returns-in-Some-clause_of
returns-in-Some-clause_of t c =
    negated_branch c.args.parts.now (expr_view c.args.filter.now) c.args.exits c.in-Some-clause_of.clause
    c.args.branches.now.items c.add_test-in-Some-clause_of.new.branches.items c.in_ok-add_test-2.field-0
    c.in-Some-clause_of.ensures
    (c.in_ok-add_test-2.ensures.branches
    ∙ ap (λ exits. c.args.branches.now.items ++ Test c.in-Some-clause_of.clause exits ∷ []) c.negated.ensures)
    c.in_ok-add_test-2.ensures.number

pub returns-then-eq : goal.returns-then-eq
returns-then-eq t c =
    let same : c.args.exits ≡ of_null_and c.args.exits = search rules in
    let first : IsAdded c.args.parts.now (expr_view c.in-And.right.value) c.args.exits c.args.branches.now.items
    c.add_branches-in-And.new.branches.items c.in_ok-second-in-And.second = search rules in
    let next : IfOk c.add_branches-then-eq.result (IsAdded c.args.parts.now (expr_view c.in-And.left.value)
    (of_first_and c.args.exits c.in_ok-second-in-And.second c.in_ok-second-in-And.second)
    c.add_branches-in-And.new.branches.items c.add_branches-then-eq.new.branches.items) = search rules in
    rw c.in-And.is (if_ok c.add_branches-then-eq.result
    (λ start. and_null_branches c.args.parts.now (expr_view c.in-And.left.value) (expr_view c.in-And.right.value)
    c.args.exits c.args.branches.now.items c.add_branches-in-And.new.branches.items
    c.add_branches-then-eq.new.branches.items
    c.in_ok-second-in-And.second start same first)
    next)

pub returns-then-eq-2 : goal.returns-then-eq-2
returns-then-eq-2 t c =
    let same : c.args.exits ≡ of_null_or c.args.exits = search rules in
    let first : IsAdded c.args.parts.now (expr_view c.in-Or.right.value) c.args.exits c.args.branches.now.items
    c.add_branches-in-Or.new.branches.items c.in_ok-second-in-Or.second = search rules in
    let next : IfOk c.add_branches-then-eq-2.result (IsAdded c.args.parts.now (expr_view c.in-Or.left.value)
    (of_first_or c.args.exits c.in_ok-second-in-Or.second c.in_ok-second-in-Or.second)
    c.add_branches-in-Or.new.branches.items c.add_branches-then-eq-2.new.branches.items) = search rules in
    rw c.in-Or.is (if_ok c.add_branches-then-eq-2.result
    (λ start. or_null_branches c.args.parts.now (expr_view c.in-Or.left.value) (expr_view c.in-Or.right.value)
    c.args.exits c.args.branches.now.items c.add_branches-in-Or.new.branches.items
    c.add_branches-then-eq-2.new.branches.items
    c.in_ok-second-in-Or.second start same first)
    next)

pub returns-in_ok-other-in-And : goal.returns-in_ok-other-in-And
returns-in_ok-other-in-And t c =
    let first : IsAdded c.args.parts.now (expr_view c.in-And.right.value) c.args.exits c.args.branches.now.items
    c.add_branches-in-And.new.branches.items c.in_ok-second-in-And.second = search rules in
    let null : IsAdded c.args.parts.now (expr_view c.in-And.right.value) (of_null_and c.args.exits)
    c.add_branches-in-And.new.branches.items c.add_branches-in-And-2.new.branches.items
    c.in_ok-other-in-And.other = search rules in
    let next : IfOk c.add_branches-in-And-3.result (IsAdded c.args.parts.now (expr_view c.in-And.left.value)
    (of_first_and c.args.exits c.in_ok-second-in-And.second c.in_ok-other-in-And.other)
    c.add_branches-in-And-2.new.branches.items c.add_branches-in-And-3.new.branches.items) = search rules in
    rw c.in-And.is (if_ok c.add_branches-in-And-3.result
    (λ start. and_branches c.args.parts.now (expr_view c.in-And.left.value) (expr_view c.in-And.right.value)
    c.args.exits c.args.branches.now.items c.add_branches-in-And.new.branches.items
    c.add_branches-in-And-2.new.branches.items
    c.add_branches-in-And-3.new.branches.items c.in_ok-second-in-And.second c.in_ok-other-in-And.other start first null)
    next)

pub returns-in_ok-other-in-Or : goal.returns-in_ok-other-in-Or
returns-in_ok-other-in-Or t c =
    let first : IsAdded c.args.parts.now (expr_view c.in-Or.right.value) c.args.exits c.args.branches.now.items
    c.add_branches-in-Or.new.branches.items c.in_ok-second-in-Or.second = search rules in
    let null : IsAdded c.args.parts.now (expr_view c.in-Or.right.value) (of_null_or c.args.exits)
    c.add_branches-in-Or.new.branches.items c.add_branches-in-Or-2.new.branches.items
    c.in_ok-other-in-Or.other = search rules in
    let next : IfOk c.add_branches-in-Or-3.result (IsAdded c.args.parts.now (expr_view c.in-Or.left.value)
    (of_first_or c.args.exits c.in_ok-second-in-Or.second c.in_ok-other-in-Or.other)
    c.add_branches-in-Or-2.new.branches.items c.add_branches-in-Or-3.new.branches.items) = search rules in
    rw c.in-Or.is (if_ok c.add_branches-in-Or-3.result
    (λ start. or_branches c.args.parts.now (expr_view c.in-Or.left.value) (expr_view c.in-Or.right.value)
    c.args.exits c.args.branches.now.items c.add_branches-in-Or.new.branches.items
    c.add_branches-in-Or-2.new.branches.items
    c.add_branches-in-Or-3.new.branches.items c.in_ok-second-in-Or.second c.in_ok-other-in-Or.other start first null)
    next)

-- The branches of filters lead to the values of the filters.
use Rattle.std.proofs.Common.{◌≡◌, ℕ, ◌+◌, ◌<◌, Bool, true, false, not, List, [], ◌∷◌, ◌++◌, length, take, get_or, refl, sym, ap, subst, ◌∙◌}
use Rattle.std.specs.Prelude.{Option, Some, None}
use Rattle.std.specs.Borrow.{Bor}
use Rattle.std.proofs.lemmas.List.{take_more, map-append}
use Rattle.std.proofs.lemmas.Slice.Zip.{all_zipped_more}
use Rattle.filter_tree.specs.Expr.{Expr, AtomOf, meaning}
use Rattle.filter_tree.specs.Expr as e
use Rattle.filter_tree.specs.Logic.{and_of, or_of, not_of, is_of, tri_of}
use Rattle.filter_tree.specs.declared.filter.Filter.{Filter}
use Rattle.filter_tree.specs.declared.filter.Test.{Test as Ask}
use Rattle.filter_tree.specs.declared.tri.Tri.{Tri}
use Rattle.filter_tree.specs.declared.tri.Tri.TheVariants.{True, False, Null}
use Rattle.filter_memo.specs.Clauses.{clause_says, negated_if, IsLiteral, IsEither}
use Rattle.filter_memo.specs.Plans.{IsClauseOf, IsAdded, IsPlanFor, ArePlans, HasEnds, IsStart, filter_view, filters_view}
use Rattle.filter_memo.specs.Branches.{Extends, Leads, Ends, LeadToOne, exit_of, negated, asked, of_null_and, of_null_or, of_first_and, of_first_or}
use Rattle.filter_memo.specs.Telling.{part_at}
use Rattle.filter_memo.specs.declared.clause.Clause.{Clause}
use Rattle.filter_memo.specs.declared.clause.Values.{Values}
use Rattle.filter_memo.specs.declared.branches.Exits.{Exits}
use Rattle.filter_memo.specs.declared.branches.Branch.{Branch}
use Rattle.filter_memo.specs.declared.branches.Branch.TheVariants.{Test}
use Rattle.filter_memo.proofs.Branching.{extends_same, extends_more, extends_by, leads_on, leads_first}

-- ---- clauses

not_not : (tri : Tri) → not_of (not_of tri) ≡ tri
not_not True = refl
not_not False = refl
not_not Null = refl

negated_not : (is_negated : Bool) (tri : Tri) → negated_if (not is_negated) tri ≡ negated_if is_negated (not_of tri)
negated_not true tri = sym (not_not tri)
negated_not false tri = refl

not_and : (one other : Tri) → or_of (not_of one) (not_of other) ≡ not_of (and_of one other)
not_and True True = refl
not_and True False = refl
not_and True Null = refl
not_and False True = refl
not_and False False = refl
not_and False Null = refl
not_and Null True = refl
not_and Null False = refl
not_and Null Null = refl

module _ {A : _} (parts : List (Filter A)) where
  pub atom_clause : (atom : AtomOf) (number : ℕ) (is_negated : Bool) (clause : Clause)
      → part_at parts number ≡ e.Atom atom → number < length parts → number < 64
      → IsLiteral clause number is_negated → IsClauseOf parts (e.Atom atom) is_negated clause
  atom_clause atom number is_negated clause is within low literal = record {
    says = λ row said values tells split. literal.says said values split
        ∙ ap (negated_if is_negated) (tells.each number within low ∙ ap (λ (filter : Expr). meaning filter row) is);
  }

  pub not_clause : (part : Expr) (is_negated : Bool) (clause : Clause) → IsClauseOf parts part (not is_negated) clause
      → IsClauseOf parts (e.Not part) is_negated clause
  not_clause part is_negated clause is = record {
    says = λ row said values tells split.
        is.says row said values tells split ∙ negated_not is_negated (meaning part row);
  }

  pub or_clause : (left right : Expr) (is_negated : Bool) (one other both : Clause) → is_negated ≡ false
      → IsClauseOf parts left is_negated one → IsClauseOf parts right is_negated other → IsEither one other both
      → IsClauseOf parts (e.Or left right) is_negated both
  or_clause left right true one other both not_so first second either = absurd cc
  or_clause left right false one other both so first second either = record {
    says = λ row said values tells split. either.says values
        ∙ ap (λ tri. or_of tri (clause_says other values)) (first.says row said values tells split)
        ∙ ap (or_of (meaning left row)) (second.says row said values tells split);
  }

  pub and_clause : (left right : Expr) (is_negated : Bool) (one other both : Clause) → is_negated ≡ true
      → IsClauseOf parts left is_negated one → IsClauseOf parts right is_negated other → IsEither one other both
      → IsClauseOf parts (e.And left right) is_negated both
  and_clause left right false one other both not_so first second either = absurd cc
  and_clause left right true one other both so first second either = record {
    says = λ row said values tells split. either.says values
        ∙ ap (λ tri. or_of tri (clause_says other values)) (first.says row said values tells split)
        ∙ ap (or_of (not_of (meaning left row))) (second.says row said values tells split)
        ∙ not_and (meaning left row) (meaning right row);
  }

-- ---- branches

same_exit : (exits : Exits) → LeadToOne exits → (tri : Tri) → exit_of exits tri ≡ exits.on_true
same_exit exits one True = refl
same_exit exits one False = sym one.by_false
same_exit exits one Null = sym one.by_null

negated_exit : (exits : Exits) (tri : Tri) → exit_of exits tri ≡ exit_of (negated exits) (not_of tri)
negated_exit exits True = refl
negated_exit exits False = refl
negated_exit exits Null = refl

asked_exit : (exits : Exits) (test : Ask) (tri : Tri)
    → exit_of exits (is_of test tri) ≡ exit_of (asked exits test) tri
asked_exit exits test True = refl
asked_exit exits test False = refl
asked_exit exits test Null = refl

module _ (values : Values) (tri : Tri) (old one two : List Branch) (exits : Exits) (second other : ℕ) where
  and_leads : (left right : Tri) → Extends old one → Extends one two
      → (Leads old values tri (exit_of exits right) → Leads one values tri second)
      → (Leads one values tri (exit_of (of_null_and exits) right) → Leads two values tri other)
      → Leads old values tri (exit_of exits (and_of left right))
      → Leads two values tri (exit_of (of_first_and exits second other) left)
  and_leads False right first next by_right by_null leads =
      leads_on values one two next tri exits.on_false (leads_on values old one first tri exits.on_false leads)
  and_leads True True first next by_right by_null leads = leads_on values one two next tri second (by_right leads)
  and_leads True False first next by_right by_null leads = leads_on values one two next tri second (by_right leads)
  and_leads True Null first next by_right by_null leads = leads_on values one two next tri second (by_right leads)
  and_leads Null True first next by_right by_null leads =
      by_null (leads_on values old one first tri exits.on_null leads)
  and_leads Null False first next by_right by_null leads =
      by_null (leads_on values old one first tri exits.on_false leads)
  and_leads Null Null first next by_right by_null leads =
      by_null (leads_on values old one first tri exits.on_null leads)

  or_leads : (left right : Tri) → Extends old one → Extends one two
      → (Leads old values tri (exit_of exits right) → Leads one values tri second)
      → (Leads one values tri (exit_of (of_null_or exits) right) → Leads two values tri other)
      → Leads old values tri (exit_of exits (or_of left right))
      → Leads two values tri (exit_of (of_first_or exits second other) left)
  or_leads True right first next by_right by_null leads =
      leads_on values one two next tri exits.on_true (leads_on values old one first tri exits.on_true leads)
  or_leads False True first next by_right by_null leads = leads_on values one two next tri second (by_right leads)
  or_leads False False first next by_right by_null leads = leads_on values one two next tri second (by_right leads)
  or_leads False Null first next by_right by_null leads = leads_on values one two next tri second (by_right leads)
  or_leads Null True first next by_right by_null leads =
      by_null (leads_on values old one first tri exits.on_true leads)
  or_leads Null False first next by_right by_null leads =
      by_null (leads_on values old one first tri exits.on_null leads)
  or_leads Null Null first next by_right by_null leads =
      by_null (leads_on values old one first tri exits.on_null leads)

module _ {A : _} (parts : List (Filter A)) where
  pub no_branch : (filter : Expr) (exits : Exits) (branches : List Branch) → LeadToOne exits
      → IsAdded parts filter exits branches branches exits.on_true
  no_branch filter exits branches one = record {
    kept = extends_same branches;
    leads = λ row said values tri tells split leads.
        subst (λ (at : ℕ). Leads branches values tri at) (same_exit exits one (meaning filter row)) leads;
  }

  pub clause_branch : (filter : Expr) (exits : Exits) (clause : Clause) (old new : List Branch) (start : ℕ)
      → IsClauseOf parts filter false clause → new ≡ old ++ Test clause exits ∷ [] → start ≡ length old
      → IsAdded parts filter exits old new start
  clause_branch filter exits clause old new start is added at = record {
    kept = extends_by old new (Test clause exits ∷ []) added;
    leads = λ row said values tri tells split leads.
        subst (λ (at : ℕ). Leads new values tri at) (sym at)
        (leads_first values old new clause exits added tri
        (subst (λ (own : Tri). Leads old values tri (exit_of exits own)) (sym (is.says row said values tells split))
        leads));
  }

  pub negated_branch : (filter : Expr) (exits : Exits) (clause : Clause) (old new : List Branch) (start : ℕ)
      → IsClauseOf parts filter true clause → new ≡ old ++ Test clause (negated exits) ∷ [] → start ≡ length old
      → IsAdded parts filter exits old new start
  negated_branch filter exits clause old new start is added at = record {
    kept = extends_by old new (Test clause (negated exits) ∷ []) added;
    leads = λ row said values tri tells split leads.
        subst (λ (at : ℕ). Leads new values tri at) (sym at)
        (leads_first values old new clause (negated exits) added tri
        (subst (λ (own : Tri). Leads old values tri (exit_of (negated exits) own))
        (sym (is.says row said values tells split))
        (subst (λ (at : ℕ). Leads old values tri at) (negated_exit exits (meaning filter row)) leads)));
  }

  pub const_branches : (known : Bool) (exits : Exits) (branches : List Branch)
      → IsAdded parts (e.Const known) exits branches branches (exit_of exits (tri_of known))
  const_branches known exits branches = record {
    kept = extends_same branches;
    leads = λ row said values tri tells split leads. leads;
  }

  pub not_branches : (part : Expr) (exits : Exits) (old new : List Branch) (start : ℕ)
      → IsAdded parts part (negated exits) old new start → IsAdded parts (e.Not part) exits old new start
  not_branches part exits old new start added = record {
    kept = added.kept;
    leads = λ row said values tri tells split leads. added.leads row said values tri tells split
        (subst (λ (at : ℕ). Leads old values tri at) (twice (meaning part row)) leads);
  } where
    twice : (tri : Tri) → exit_of exits (not_of tri) ≡ exit_of (negated exits) tri
    twice True = refl
    twice False = refl
    twice Null = refl

  pub is_branches : (test : Ask) (part : Expr) (exits : Exits) (old new : List Branch) (start : ℕ)
      → IsAdded parts part (asked exits test) old new start → IsAdded parts (e.Is test part) exits old new start
  is_branches test part exits old new start added = record {
    kept = added.kept;
    leads = λ row said values tri tells split leads. added.leads row said values tri tells split
        (subst (λ (at : ℕ). Leads old values tri at) (asked_exit exits test (meaning part row)) leads);
  }

  pub and_branches : (left right : Expr) (exits : Exits) (old one two new : List Branch) (second other start : ℕ)
      → IsAdded parts right exits old one second → IsAdded parts right (of_null_and exits) one two other
      → IsAdded parts left (of_first_and exits second other) two new start
      → IsAdded parts (e.And left right) exits old new start
  and_branches left right exits old one two new second other start by_right by_null by_left = record {
    kept = extends_more old one new by_right.kept (extends_more one two new by_null.kept by_left.kept);
    leads = λ row said values tri tells split leads. by_left.leads row said values tri tells split
        (and_leads values tri old one two exits second other (meaning left row) (meaning right row) by_right.kept
        by_null.kept (by_right.leads row said values tri tells split) (by_null.leads row said values tri tells split)
        leads);
  }

  pub or_branches : (left right : Expr) (exits : Exits) (old one two new : List Branch) (second other start : ℕ)
      → IsAdded parts right exits old one second → IsAdded parts right (of_null_or exits) one two other
      → IsAdded parts left (of_first_or exits second other) two new start
      → IsAdded parts (e.Or left right) exits old new start
  or_branches left right exits old one two new second other start by_right by_null by_left = record {
    kept = extends_more old one new by_right.kept (extends_more one two new by_null.kept by_left.kept);
    leads = λ row said values tri tells split leads. by_left.leads row said values tri tells split
        (or_leads values tri old one two exits second other (meaning left row) (meaning right row) by_right.kept
        by_null.kept (by_right.leads row said values tri tells split) (by_null.leads row said values tri tells split)
        leads);
  }

  -- if the second side has the same exits when the first side is null
  pub and_null_branches : (left right : Expr) (exits : Exits) (old one new : List Branch) (second start : ℕ)
      → exits ≡ of_null_and exits → IsAdded parts right exits old one second
      → IsAdded parts left (of_first_and exits second second) one new start
      → IsAdded parts (e.And left right) exits old new start
  and_null_branches left right exits old one new second start same by_right by_left = record {
    kept = extends_more old one new by_right.kept by_left.kept;
    leads = λ row said values tri tells split leads. by_left.leads row said values tri tells split
        (leads_and values tri (meaning left row) (meaning right row)
        (by_right.leads row said values tri tells split) leads);
  } where
    leads_and : (values : Values) (tri : Tri) (first next : Tri)
        → (Leads old values tri (exit_of exits next) → Leads one values tri second)
        → Leads old values tri (exit_of exits (and_of first next))
        → Leads one values tri (exit_of (of_first_and exits second second) first)
    leads_and values tri False next by leads = leads_on values old one by_right.kept tri exits.on_false leads
    leads_and values tri True True by leads = by leads
    leads_and values tri True False by leads = by leads
    leads_and values tri True Null by leads = by leads
    leads_and values tri Null True by leads =
        by (subst (λ (at : ℕ). Leads old values tri at) (sym (ap (λ (own : Exits). own.on_true) same)) leads)
    leads_and values tri Null False by leads = by leads
    leads_and values tri Null Null by leads = by leads

  pub or_null_branches : (left right : Expr) (exits : Exits) (old one new : List Branch) (second start : ℕ)
      → exits ≡ of_null_or exits → IsAdded parts right exits old one second
      → IsAdded parts left (of_first_or exits second second) one new start
      → IsAdded parts (e.Or left right) exits old new start
  or_null_branches left right exits old one new second start same by_right by_left = record {
    kept = extends_more old one new by_right.kept by_left.kept;
    leads = λ row said values tri tells split leads. by_left.leads row said values tri tells split
        (leads_or values tri (meaning left row) (meaning right row)
        (by_right.leads row said values tri tells split) leads);
  } where
    leads_or : (values : Values) (tri : Tri) (first next : Tri)
        → (Leads old values tri (exit_of exits next) → Leads one values tri second)
        → Leads old values tri (exit_of exits (or_of first next))
        → Leads one values tri (exit_of (of_first_or exits second second) first)
    leads_or values tri True next by leads = leads_on values old one by_right.kept tri exits.on_true leads
    leads_or values tri False True by leads = by leads
    leads_or values tri False False by leads = by leads
    leads_or values tri False Null by leads = by leads
    leads_or values tri Null True by leads = by leads
    leads_or values tri Null False by leads =
        by (subst (λ (at : ℕ). Leads old values tri at) (sym (ap (λ (own : Exits). own.on_false) same)) leads)
    leads_or values tri Null Null by leads = by leads

  -- ---- plans

  pub no_start : (branches : List Branch) (start : ℕ) → IsStart parts None branches branches start
  no_start branches start = record { kept = extends_same branches; is = λ ends. tt }

  pub one_start : (filter : Expr) (old new : List Branch) (start : ℕ)
      → IsAdded parts filter (record { on_true = 0; on_false = 1; on_null = 2 }) old new start
      → IsStart parts (Some filter) old new start
  one_start filter old new start added = record {
    kept = added.kept;
    is = λ ends. record {
      leads = λ row said tells values split. added.leads row said values (meaning filter row) tells split
          (at_end values ends (meaning filter row));
    };
  } where
    at_end : (values : Values) → HasEnds old → (tri : Tri)
        → Leads old values tri (exit_of (record { on_true = 0; on_false = 1; on_null = 2 }) tri)
    at_end values ends True = Ends 0 ends.is_true
    at_end values ends False = Ends 1 ends.is_false
    at_end values ends Null = Ends 2 ends.is_null

  pub ends_on : (old new : List Branch) → Extends old new → HasEnds old → HasEnds new
  ends_on old new more ends = record {
    is_true = more.kept 0 _ ends.is_true;
    is_false = more.kept 1 _ ends.is_false;
    is_null = more.kept 2 _ ends.is_null;
  }

  plan_on : (old new : List Branch) → Extends old new → (filter : Option Expr) (start : ℕ)
      → IsPlanFor parts old filter start → IsPlanFor parts new filter start
  plan_on old new more None start is = tt
  plan_on old new more (Some filter) start is = record {
    leads = λ row said tells values split.
        leads_on values old new more (meaning filter row) start (is.leads row said tells values split);
  }

  plans_on : (old new : List Branch) → Extends old new → (filters : List (Option Expr)) (starts : List ℕ)
      → ArePlans parts filters old starts → ArePlans parts filters new starts
  plans_on old new more [] [] are = are
  plans_on old new more [] (start ∷ starts) are = absurd are
  plans_on old new more (filter ∷ filters) [] are = absurd are
  plans_on old new more (filter ∷ filters) (start ∷ starts) are =
      (plan_on old new more filter start are.0, plans_on old new more filters starts are.1)

-- the plans so far, and one more
pub plans_more : {A : _} (parts : List (Filter A)) (filters : List (Option (Bor (Filter A)))) (i : ℕ)
    (next : Option (Bor (Filter A))) (old new : List Branch) (starts all : List ℕ) (start : ℕ) → i < length filters
    → next ≡ get_or filters i next → HasEnds old → ArePlans parts (filters_view (take i filters)) old starts
    → IsStart parts (filter_view next) old new start → all ≡ starts ++ start ∷ []
    → ArePlans parts (filters_view (take (i + 1) filters)) new all
plans_more parts filters i next old new starts all start within at ends are begins pushed =
    let more : take (i + 1) filters ≡ take i filters ++ next ∷ [] = take_more filters i next within
    ∙ ap (λ own. take i filters ++ own ∷ []) (sym at) in
    let seen : filters_view (take (i + 1) filters) ≡ filters_view (take i filters) ++ filter_view next ∷ [] =
    ap filters_view more ∙ map-append filter_view (take i filters) (next ∷ []) in
    let both : ArePlans parts (filters_view (take i filters) ++ filter_view next ∷ []) new (starts ++ start ∷ []) =
    all_zipped_more (IsPlanFor parts new) (filters_view (take i filters)) starts (filter_view next) start
    (plans_on parts old new begins.kept (filters_view (take i filters)) starts are) (begins.is ends) in
    subst (λ own. ArePlans parts own new all) (sym seen)
    (subst (λ own. ArePlans parts (filters_view (take i filters) ++ filter_view next ∷ []) new own) (sym pushed) both)

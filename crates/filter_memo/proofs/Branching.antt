-- Where branches lead.
use Rattle.std.proofs.Common.{◌≡◌, ℕ, zero, suc, List, [], ◌∷◌, ◌++◌, length, refl, sym, ap, subst, ◌∙◌}
use Rattle.std.specs.Prelude.{Option, Some, slice_get}
use Rattle.filter_tree.specs.declared.tri.Tri.{Tri}
use Rattle.filter_memo.specs.Clauses.{clause_says}
use Rattle.filter_memo.specs.Branches.{Leads, Ends, Goes, Extends, exit_of}
use Rattle.filter_memo.specs.declared.clause.Clause.{Clause}
use Rattle.filter_memo.specs.declared.clause.Values.{Values}
use Rattle.filter_memo.specs.declared.branches.Exits.{Exits}
use Rattle.filter_memo.specs.declared.branches.Branch.{Branch}
use Rattle.filter_memo.specs.declared.branches.Branch.TheVariants.{End, Test}

-- ---- more branches

pub extends_same : (branches : List Branch) → Extends branches branches
extends_same branches = record { kept = λ at branch is. is }

pub extends_more : (old middle new : List Branch) → Extends old middle → Extends middle new → Extends old new
extends_more old middle new first second = record {
  kept = λ at branch is. second.kept at branch (first.kept at branch is);
}

at_left : (old more : List Branch) (at : ℕ) (branch : Branch) → slice_get old at ≡ Some branch
    → slice_get (old ++ more) at ≡ Some branch
at_left [] more at branch is = absurd cc
at_left (own ∷ old) more zero branch is = is
at_left (own ∷ old) more (suc at) branch is = at_left old more at branch is

at_end : (old : List Branch) (branch : Branch) → slice_get (old ++ branch ∷ []) (length old) ≡ Some branch
at_end [] branch = refl
at_end (own ∷ old) branch = at_end old branch

pub extends_by : (old new more : List Branch) → new ≡ old ++ more → Extends old new
extends_by old new more is = record {
  kept = λ at branch held. ap (λ (branches : List Branch). slice_get branches at) is ∙ at_left old more at branch held;
}

-- ---- where they lead

some_same : {X : Type 0} (one other : X) (found : Option X) → found ≡ Some one → found ≡ Some other → one ≡ other
some_same one other found p q = cc

module _ (values : Values) where
  pub leads_on : (old new : List Branch) → Extends old new → (tri : Tri) (at : ℕ) → Leads old values tri at
      → Leads new values tri at
  leads_on old new more tri at (Ends _ is) = Ends at (more.kept at (End tri) is)
  leads_on old new more tri at (Goes _ clause exits is leads) =
      Goes at clause exits (more.kept at (Test clause exits) is)
      (leads_on old new more tri (exit_of exits (clause_says clause values)) leads)

  pub end_there : (branches : List Branch) (one other : Tri) (at : ℕ) → slice_get branches at ≡ Some (End one)
      → Leads branches values other at → one ≡ other
  end_there branches one other at here (Ends _ is) = let same : End one ≡ End other = cc in cc
  end_there branches one other at here (Goes _ clause exits is leads) =
      let same : End one ≡ Test clause exits = cc in absurd cc

  pub leads_next : (branches : List Branch) (tri : Tri) (at : ℕ) (clause : Clause) (exits : Exits)
      → slice_get branches at ≡ Some (Test clause exits) → Leads branches values tri at
      → Leads branches values tri (exit_of exits (clause_says clause values))
  leads_next branches tri at clause exits here (Ends _ is) =
      let same : End tri ≡ Test clause exits = cc in absurd cc
  leads_next branches tri at clause exits here (Goes _ own theirs is leads) =
      let same : Test own theirs ≡ Test clause exits = cc in
      let its : own ≡ clause = cc in
      let their : theirs ≡ exits = cc in
      subst (λ (c : Clause). Leads branches values tri (exit_of exits (clause_says c values))) its
      (subst (λ (e : Exits). Leads branches values tri (exit_of e (clause_says own values))) their leads)

  -- branches lead to only one value
  pub leads_once : (branches : List Branch) (one other : Tri) (at : ℕ) → Leads branches values one at
      → Leads branches values other at → one ≡ other
  leads_once branches one other at (Ends _ is) leads = end_there branches one other at is leads
  leads_once branches one other at (Goes _ clause exits is leads) others =
      leads_once branches one other (exit_of exits (clause_says clause values)) leads
      (leads_next branches other at clause exits is others)

  -- a test that is added
  pub leads_first : (old new : List Branch) (clause : Clause) (exits : Exits) → new ≡ old ++ Test clause exits ∷ []
      → (tri : Tri) → Leads old values tri (exit_of exits (clause_says clause values))
      → Leads new values tri (length old)
  leads_first old new clause exits is tri leads =
      Goes (length old) clause exits
      (ap (λ (branches : List Branch). slice_get branches (length old)) is ∙ at_end old (Test clause exits))
      (leads_on old new (extends_by old new (Test clause exits ∷ []) is) tri
      (exit_of exits (clause_says clause values)) leads)

  -- the next branch, as the code computes it
  pub next_is : (branches : List Branch) (tri : Tri) (at : ℕ) (clause : Clause) (exits : Exits) (own : Tri) (next : ℕ)
      → slice_get branches at ≡ Some (Test clause exits) → own ≡ clause_says clause values → next ≡ exit_of exits own
      → Leads branches values tri at → Leads branches values tri next
  next_is branches tri at clause exits own next here says is leads =
      subst (λ (to : ℕ). Leads branches values tri to) (sym (is ∙ ap (exit_of exits) says))
      (leads_next branches tri at clause exits here leads)

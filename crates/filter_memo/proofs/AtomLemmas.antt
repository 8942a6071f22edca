-- The values of filters follow from those of their atoms.
use Rattle.std.proofs.Common.{◌≡◌, ℕ, true, false, List, [], ◌∷◌, length, refl, sym, ap, subst, ◌∙◌}
use Rattle.std.specs.Prelude.{Option, Some, None, slice_get, All}
use Rattle.std.proofs.Math.Logic.{∥∥₁_elim, ∥∥₁_map}
use Rattle.std.proofs.Props.{props}
use Rattle.std.specs.Option.{MatchOption, IsSomeAnd}
use Rattle.std.proofs.lemmas.Slice.Zip.{AllZip-left}
use Rattle.std.proofs.lemmas.List.Elements.{All-nil, All-cons}
use Rattle.filter_tree.specs.Datum.{Datum}
use Rattle.filter_tree.specs.Expr.{Expr, meaning}
use Rattle.filter_tree.specs.declared.filter.Filter.{Filter}
use Rattle.filter_tree.specs.declared.tri.Tri.{Tri}
use Rattle.filter_memo.specs.Atoms.{says, SayTheSame, TellFilters, IsAtomsOf, Locates, LocateAlike}
use Rattle.filter_memo.specs.Plans.{IsPlanOf, IsPlanFor, ArePlans}
use Rattle.filter_memo.specs.Branches.{LeadTo}
use Rattle.filter_memo.specs.Telling.{TellsThese, Tells, numbers_in, IsSettled, AreSettled, IsCell, IsInterval, AreCells, AreNew, AreEvaluated}
use Rattle.filter_memo.specs.declared.atoms.Atoms.{Atoms}
use Rattle.filter_memo.specs.declared.said.Said.{Said}
use Rattle.filter_memo.specs.declared.branches.Branch.{Branch}
use Rattle.filter_memo.proofs.ClauseLemmas.{some_values}
use Rattle.filter_memo.proofs.Branching.{leads_once}
use Rattle.filter_memo.proofs.Judging.{tells_all}
use Rattle.filter_memo.proofs.WithinInterval.{no_number}

Tri-set : IsSet Tri
Tri-set = Prim.hlevel props

SayTheSame-prop : (filters : List (Option Expr)) (one other : List Datum) → IsProp (SayTheSame filters one other)
SayTheSame-prop filters one other = Prim.hlevel (props, Tri-set)

Tells-prop : {A : _} (parts : List (Filter A)) (row : List Datum) (said : Said) → IsProp (Tells parts row said)
Tells-prop parts row said = Prim.hlevel (props, Tri-set)

-- for rows with the same values of the parts, the filters have the same values
filters_say : {A : _} (parts : List (Filter A)) (one other : List Datum) (said : Said) → Tells parts one said
    → Tells parts other said → (branches : List Branch) (filters : List (Option Expr)) (starts : List ℕ)
    → ArePlans parts filters branches starts → SayTheSame filters one other
filters_say parts one other said at_one at_other branches [] starts are = All-nil (λ it. says one it ≡ says other it)
filters_say parts one other said at_one at_other branches (filter ∷ filters) [] are = absurd are
filters_say parts one other said at_one at_other branches (filter ∷ filters) (start ∷ starts) are =
    All-cons (λ it. says one it ≡ says other it) filter filters (first filter are.0)
    (filters_say parts one other said at_one at_other branches filters starts are.1) where
      first : (own : Option Expr) → IsPlanFor parts branches own start → says one own ≡ says other own
      first None is = refl
      first (Some own) is =
          let values = some_values said in
          ap Some (leads_once values.0 branches (meaning own one) (meaning own other) start
          (is.leads one said at_one values.0 values.1) (is.leads other said at_other values.0 values.1))

-- atoms of which nothing is kept
pub fresh : (atoms : Atoms) (filters : List (Option Expr)) → AreSettled atoms.parts.items atoms.all_breakpoints.items
    → AreNew atoms.cells → AreEvaluated atoms.all_breakpoints.items (length atoms.parts.items)
    → ArePlans atoms.parts.items filters atoms.plan.branches.items atoms.plan.starts.items → IsAtomsOf filters atoms
fresh atoms filters settled empty evaluated plans = record {
  tell = ∣ record {
    cells = record {
      settled = settled;
      buckets = λ k d within.
          subst (λ cell. IsCell atoms.parts.items atoms.all_breakpoints.items cell) (sym (empty.buckets k d within)) tt;
      intervals = λ k d within. no_number atoms.parts.items atoms.all_breakpoints.items _ (empty.intervals k d within);
    };
    evaluated = λ used. evaluated;
    plans = λ used. plans;
  } ∣₁;
}

-- atoms that are not used
pub unused : (atoms : Atoms) (filters : List (Option Expr)) → atoms.is_used ≡ false
    → atoms.all_breakpoints.items ≡ [] → atoms.cells.buckets.items ≡ [] → atoms.cells.intervals.items ≡ []
    → IsAtomsOf filters atoms
unused atoms filters not_used no_breakpoints no_bucket no_interval = record {
  tell = ∣ record {
    cells = record {
      settled = subst (λ all_breakpoints. AreSettled atoms.parts.items all_breakpoints) (sym no_breakpoints)
          (All-nil (IsSettled atoms.parts.items));
      buckets = subst (λ cells. All (IsCell atoms.parts.items atoms.all_breakpoints.items) cells) (sym no_bucket)
          (All-nil (IsCell atoms.parts.items atoms.all_breakpoints.items));
      intervals = subst (λ cells. All (IsInterval atoms.parts.items atoms.all_breakpoints.items) cells)
          (sym no_interval) (All-nil (IsInterval atoms.parts.items atoms.all_breakpoints.items));
    };
    evaluated = λ used. absurd (never used);
    plans = λ used. absurd (never used);
  } ∣₁;
} where
  never : atoms.is_used ≡ true → ⊥
  never used = let both : true ≡ false = sym used ∙ not_used in absurd cc

-- atoms of which something else is kept
pub other_cells : (old new : Atoms) (filters : List (Option Expr)) → IsAtomsOf filters old → new.parts ≡ old.parts
    → new.plan ≡ old.plan → new.all_breakpoints ≡ old.all_breakpoints → new.is_used ≡ old.is_used
    → (AreCells old.parts.items old.all_breakpoints.items old.cells
    → AreCells old.parts.items old.all_breakpoints.items new.cells) → IsAtomsOf filters new
other_cells old new filters is parts plan all_breakpoints used cells = record {
  tell = ∥∥₁_map is.tell (λ tell. changed tell);
} where
  changed : TellFilters filters old → TellFilters filters new
  changed tell = record {
    cells = rw (parts, all_breakpoints) (cells tell.cells);
    evaluated = λ own. rw (parts, all_breakpoints) (tell.evaluated (sym used ∙ own));
    plans = λ own. rw (parts, plan) (tell.plans (sym used ∙ own));
  }

pub locate_alike : (old new : Atoms) → new.parts ≡ old.parts → new.is_used ≡ old.is_used → LocateAlike old new
locate_alike old new parts used = record {
  used = used;
  after = λ row said is. record { tells = λ own. rw parts (is.tells (sym used ∙ own)) };
  before = λ row said is. record { tells = λ own. rw (sym parts) (is.tells (used ∙ own)) };
}

-- values of all atoms
pub located : (old new : Atoms) (filters : List (Option Expr)) → IsAtomsOf filters old → new.parts ≡ old.parts
    → new.is_used ≡ old.is_used → (row : List Datum) (said : Said)
    → (AreCells old.parts.items old.all_breakpoints.items old.cells
    → TellsThese old.parts.items (numbers_in old.all_breakpoints.items) row said) → Locates new row said
located old new filters is parts used row said values = record {
  tells = λ own. rw parts (∥∥₁_elim is.tell (Tells-prop old.parts.items row said) (λ tell.
      tells_all old.parts.items old.all_breakpoints.items row said (tell.evaluated (sym used ∙ own))
      (values tell.cells)));
}

module _ (atoms : Atoms) (filters : List (Option Expr)) (is : IsAtomsOf filters atoms)
    (used : atoms.is_used ≡ true) where
  -- for rows with the same values of the atoms, each filter has the same value
  pub say_the_same : (one other : List Datum) (said : Said) → Locates atoms one said → Locates atoms other said
      → SayTheSame filters one other
  say_the_same one other said at_one at_other =
      ∥∥₁_elim is.tell (SayTheSame-prop filters one other) (λ tell.
      filters_say atoms.parts.items one other said (at_one.tells used) (at_other.tells used)
      atoms.plan.branches.items filters atoms.plan.starts.items (tell.plans used))

  -- what the branches say is the filter's value
  pub branches_say : (row : List Datum) (said : Said) (number start : ℕ) (filter : Expr) (answer : Tri)
      → Locates atoms row said → slice_get atoms.plan.starts.items number ≡ Some start
      → slice_get filters number ≡ Some (Some filter)
      → ((tri : Tri) → LeadTo atoms.plan.branches.items said tri start → answer ≡ tri)
      → answer ≡ meaning filter row
  branches_say row said number start filter answer located found asked is_one =
      ∥∥₁_elim is.tell (Tri-set answer (meaning filter row)) (λ tell. is_one (meaning filter row) (lead tell)) where
        lead : TellFilters filters atoms → LeadTo atoms.plan.branches.items said (meaning filter row) start
        lead tell =
            let all = AllZip-left (IsPlanFor atoms.parts.items atoms.plan.branches.items) filters
            atoms.plan.starts.items (tell.plans used) number in
            let at : IsSomeAnd (slice_get atoms.plan.starts.items number)
            (IsPlanFor atoms.parts.items atoms.plan.branches.items (Some filter)) =
            subst (λ (own : Option (Option Expr)). MatchOption own (Unit {0})
            (λ it. IsSomeAnd (slice_get atoms.plan.starts.items number)
            (IsPlanFor atoms.parts.items atoms.plan.branches.items it))) asked all in
            let its : IsPlanOf atoms.parts.items atoms.plan.branches.items filter start =
            subst (λ (own : Option ℕ).
            IsSomeAnd own (IsPlanFor atoms.parts.items atoms.plan.branches.items (Some filter))) found at in
            its.leads row said (located.tells used)

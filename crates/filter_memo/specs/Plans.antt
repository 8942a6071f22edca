-- Filters over the truth values of numbered filters: row filters of PostgreSQL 15, "Logical Replication", 31.3 Row
-- Filters.
use Rattle.std.specs.Prelude.{◌≡◌, ℕ, Bool, List, Option, Some, None, map, slice_get}
use Rattle.std.specs.Borrow.{Bor}
use Rattle.std.specs.List.{AllZip}
use Rattle.std.specs.Option.{option_map}
use Rattle.filter_tree.specs.Datum.{Datum}
use Rattle.filter_tree.specs.Expr.{Expr, meaning}
use Rattle.filter_tree.specs.Shape.{expr_view}
use Rattle.filter_tree.specs.declared.filter.Filter.{Filter}
use Rattle.filter_tree.specs.declared.tri.Tri.{Tri}
use Rattle.filter_tree.specs.declared.tri.Tri.TheVariants.{True, False, Null}
use Rattle.filter_memo.specs.Bits.{IsSplit}
use Rattle.filter_memo.specs.Clauses.{clause_says, negated_if}
use Rattle.filter_memo.specs.Branches.{Extends, Leads, LeadTo, exit_of}
use Rattle.filter_memo.specs.Telling.{Tells}
use Rattle.filter_memo.specs.declared.clause.Clause.{Clause}
use Rattle.filter_memo.specs.declared.clause.Values.{Values}
use Rattle.filter_memo.specs.declared.said.Said.{Said}
use Rattle.filter_memo.specs.declared.branches.Exits.{Exits}
use Rattle.filter_memo.specs.declared.branches.Branch.{Branch}
use Rattle.filter_memo.specs.declared.branches.Branch.TheVariants.{End}

-- for each row, the clause has the value of the filter, or of its negation
pub record IsClauseOf {A : _} (parts : List (Filter A)) (filter : Expr) (is_negated : Bool) (clause : Clause) :
    Type 0 where
  pub says : (row : List Datum) (said : Said) (values : Values) → Tells parts row said → IsSplit said values
      → clause_says clause values ≡ negated_if is_negated (meaning filter row)

-- the added branches lead to the same truth value as the exit of the filter's value
pub record IsAdded {A : _} (parts : List (Filter A)) (filter : Expr) (exits : Exits) (old new : List Branch)
    (start : ℕ) : Type 0 where
  pub kept : Extends old new
  pub leads : (row : List Datum) (said : Said) (values : Values) (tri : Tri) → Tells parts row said
      → IsSplit said values → Leads old values tri (exit_of exits (meaning filter row)) → Leads new values tri start

-- the branches lead to the filter's value for the row
pub record IsPlanOf {A : _} (parts : List (Filter A)) (branches : List Branch) (filter : Expr) (start : ℕ) :
    Type 0 where
  pub leads : (row : List Datum) (said : Said) → Tells parts row said → LeadTo branches said (meaning filter row) start

-- the branches of a filter, if there is one
abbrev pub IsPlanFor : {A : _} → List (Filter A) → List Branch → Option Expr → ℕ → Type 0
IsPlanFor parts branches None start = Unit {0}
IsPlanFor parts branches (Some filter) start = IsPlanOf parts branches filter start

abbrev pub ArePlans : {A : _} → List (Filter A) → List (Option Expr) → List Branch → List ℕ → Type 0
ArePlans parts filters branches starts = AllZip (IsPlanFor parts branches) filters starts

-- the first three branches are ends, one for each truth value
pub record HasEnds (branches : List Branch) : Type 0 where
  pub is_true : slice_get branches 0 ≡ Some (End True)
  pub is_false : slice_get branches 1 ≡ Some (End False)
  pub is_null : slice_get branches 2 ≡ Some (End Null)

-- the branches of one more filter are added
pub record IsStart {A : _} (parts : List (Filter A)) (filter : Option Expr) (old new : List Branch) (start : ℕ) :
    Type 0 where
  pub kept : Extends old new
  pub is : HasEnds old → IsPlanFor parts new filter start

abbrev pub filter_view : {A : _} → Option (Bor (Filter A)) → Option Expr
filter_view filter = option_map (λ own. expr_view own.now) filter

abbrev pub filters_view : {A : _} → List (Option (Bor (Filter A))) → List (Option Expr)
filters_view filters = map filter_view filters

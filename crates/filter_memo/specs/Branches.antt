-- Filters as branches: a branch tests some atoms, and their value leads to the next branch. PostgreSQL 15, 9.1 Logical
-- Operators.
use Rattle.std.specs.Prelude.{◌≡◌, ℕ, List, Some, slice_get}
use Rattle.filter_tree.specs.Logic.{is_of}
use Rattle.filter_tree.specs.declared.filter.Test.{Test as Ask}
use Rattle.filter_tree.specs.declared.tri.Tri.{Tri}
use Rattle.filter_tree.specs.declared.tri.Tri.TheVariants.{True, False, Null}
use Rattle.filter_memo.specs.Bits.{IsSplit}
use Rattle.filter_memo.specs.Clauses.{clause_says}
use Rattle.filter_memo.specs.declared.clause.Clause.{Clause}
use Rattle.filter_memo.specs.declared.clause.Values.{Values}
use Rattle.filter_memo.specs.declared.said.Said.{Said}
use Rattle.filter_memo.specs.declared.branches.Exits.{Exits}
use Rattle.filter_memo.specs.declared.branches.Branch.{Branch}
use Rattle.filter_memo.specs.declared.branches.Branch.TheVariants.{End, Test}

-- ---- exits

abbrev pub exit_of : Exits → Tri → ℕ
exit_of exits True = exits.on_true
exit_of exits False = exits.on_false
exit_of exits Null = exits.on_null

abbrev pub negated : Exits → Exits
negated exits = record { on_true = exits.on_false; on_false = exits.on_true; on_null = exits.on_null }

abbrev pub asked : Exits → Ask → Exits
asked exits test = record {
  on_true = exit_of exits (is_of test True);
  on_false = exit_of exits (is_of test False);
  on_null = exit_of exits (is_of test Null);
}

-- all values lead to the same branch
pub record LeadToOne (exits : Exits) : Type 0 where
  pub by_false : exits.on_true ≡ exits.on_false
  pub by_null : exits.on_true ≡ exits.on_null

-- the second side of an AND, if the first one is null
abbrev pub of_null_and : Exits → Exits
of_null_and exits = record { on_true = exits.on_null; on_false = exits.on_false; on_null = exits.on_null }

-- the second side of an OR, if the first one is null
abbrev pub of_null_or : Exits → Exits
of_null_or exits = record { on_true = exits.on_true; on_false = exits.on_null; on_null = exits.on_null }

-- the first side of an AND, and of an OR: the second side begins at `second`, or at `other` if the first one is null
abbrev pub of_first_and : Exits → ℕ → ℕ → Exits
of_first_and exits second other = record { on_true = second; on_false = exits.on_false; on_null = other }

abbrev pub of_first_or : Exits → ℕ → ℕ → Exits
of_first_or exits second other = record { on_true = exits.on_true; on_false = second; on_null = other }

-- ---- where branches lead

-- the branches lead from this one to a truth value
pub data Leads (branches : List Branch) (values : Values) (tri : Tri) : ℕ → Type 0 where
  Ends : (at : ℕ) → slice_get branches at ≡ Some (End tri) → Leads branches values tri at
  Goes : (at : ℕ) (clause : Clause) (exits : Exits) → slice_get branches at ≡ Some (Test clause exits)
      → Leads branches values tri (exit_of exits (clause_says clause values)) → Leads branches values tri at

abbrev pub LeadTo : List Branch → Said → Tri → ℕ → Type 0
LeadTo branches said tri at = (values : Values) → IsSplit said values → Leads branches values tri at

-- each branch keeps its number
pub record Extends (old new : List Branch) : Type 0 where
  pub kept : (at : ℕ) (branch : Branch) → slice_get old at ≡ Some branch → slice_get new at ≡ Some branch

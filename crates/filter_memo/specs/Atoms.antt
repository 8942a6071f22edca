-- The atoms of filters, whose values for a row determine the values of the filters: row filters of PostgreSQL 15,
-- "Logical Replication", 31.3 Row Filters.
use Rattle.std.specs.Prelude.{◌≡◌, true, List, length, Option, All}
use Rattle.std.specs.Option.{option_map}
use Rattle.filter_tree.specs.Datum.{Datum}
use Rattle.filter_tree.specs.Expr.{Expr, meaning}
use Rattle.filter_tree.specs.declared.tri.Tri.{Tri}
use Rattle.filter_memo.specs.Plans.{ArePlans}
use Rattle.filter_memo.specs.Telling.{Tells, AreEvaluated, AreCells}
use Rattle.filter_memo.specs.declared.atoms.Atoms.{Atoms}
use Rattle.filter_memo.specs.declared.said.Said.{Said}

-- the value of a filter, if there is one
abbrev pub says : List Datum → Option Expr → Option Tri
says row filter = option_map (λ own. meaning own row) filter

-- each filter has the same value for both rows
abbrev pub SayTheSame : List (Option Expr) → List Datum → List Datum → Type 0
SayTheSame filters one other = All (λ filter. says one filter ≡ says other filter) filters

-- what is kept of the atoms is right, and if they are used, their values determine those of the filters
pub record TellFilters (filters : List (Option Expr)) (atoms : Atoms) : Type 0 where
  pub cells : AreCells atoms.parts.items atoms.all_breakpoints.items atoms.cells
  pub evaluated : atoms.is_used ≡ true → AreEvaluated atoms.all_breakpoints.items (length atoms.parts.items)
  pub plans : atoms.is_used ≡ true
      → ArePlans atoms.parts.items filters atoms.plan.branches.items atoms.plan.starts.items

-- The atoms are those of these filters.
pub record IsAtomsOf (filters : List (Option Expr)) (atoms : Atoms) : Type 0 where
  pub tell : ∥ TellFilters filters atoms ∥₁

-- The values of the atoms are those of the row, if they are used.
pub record Locates (atoms : Atoms) (row : List Datum) (said : Said) : Type 0 where
  pub tells : atoms.is_used ≡ true → Tells atoms.parts.items row said

-- Each row has the same values of both.
pub record LocateAlike (old new : Atoms) : Type 0 where
  pub used : new.is_used ≡ old.is_used
  pub after : (row : List Datum) (said : Said) → Locates old row said → Locates new row said
  pub before : (row : List Datum) (said : Said) → Locates new row said → Locates old row said

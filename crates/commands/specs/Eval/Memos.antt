-- A memo of what is said of rows, which follows from what the filters of publications say of the row: PostgreSQL 15,
-- "Logical Replication", 31.3 Row Filters.
use Rattle.std.specs.Prelude.{◌≡◌, ℕ, if◌then◌else◌, List, [], Option, Some, None, map, codes, slice_get}
use Rattle.filter_tree.specs.Datum.{Datum}
use Rattle.filter_tree.specs.Expr.{Expr}
use Rattle.filter_memo.specs.Memos.{IsMemoOf, IsLocated}
use Rattle.filter_memo.specs.declared.memo.Memo.{Memo}
use Rattle.filter_memo.specs.declared.said.Said.{Said}
use Rattle.commands.specs.Eval.Answers.{line_of}
use Rattle.commands.specs.Eval.Carriers.{CarrierOf}
use Rattle.commands.specs.Eval.Inserts.{is_carried}
use Rattle.commands.specs.declared.eval.row_output.RowOutput.{RowOutput}
use Rattle.commands.specs.declared.eval.row_output.RowOutput.TheVariants.{Answers, Insert}

-- the filters of the publications, where they have one
abbrev pub filters_of : List CarrierOf → List (Option Expr)
filters_of carriers = map (λ carrier. carrier.filter) carriers

-- what is kept of rows: their answers, or `none` of those whose message is not printed
abbrev pub kept_of : RowOutput → List CarrierOf → List Datum → List ℕ
kept_of Answers carriers row = line_of row carriers
kept_of Insert carriers row = if is_carried row carriers then [] else codes "none"

-- the memo, once there is one, is of what these publications say
abbrev pub IsLineMemo : RowOutput → List CarrierOf → Option Memo → Type 0
IsLineMemo wanted carriers None = Unit {0}
IsLineMemo wanted carriers (Some memo) = IsMemoOf (filters_of carriers) (kept_of wanted carriers) memo

-- the memo is of these publications, and these are the values of the row
pub record Knows (carriers : List CarrierOf) (row : List Datum) (memo : Memo) (said : Said) : Type 0 where
  pub text_of : List Datum → List ℕ
  pub is : IsMemoOf (filters_of carriers) text_of memo
  pub located : IsLocated memo row said

-- So it is, and the filter with this number is that of one of them.
pub record KnowsOne (filter : Option Expr) (number : ℕ) (row : List Datum) (memo : Memo) (said : Said) : Type 0 where
  pub carriers : List CarrierOf
  pub known : Knows carriers row memo said
  pub own : slice_get (filters_of carriers) number ≡ Some filter

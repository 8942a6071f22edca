-- Scripts that only commit, for `serve`: this program's own.
use Rattle.std.specs.Prelude.{◌≡◌, ◌⊎◌, ℕ, Bool, true, false, if◌then◌else◌, List, [], ◌∷◌, map, Option, Some, None, Ok, codes}
use Rattle.std.specs.Global.{Vec}
use Rattle.filter_tree.specs.declared.table.Table.{Table}
use Rattle.pub_reader.specs.Scripts.{LineOf, script_by}
use Rattle.pub_reader.specs.Steps.{StepOf, Commit}
use Rattle.sql_reader.specs.KindNames.{kind_name}
use Rattle.sql_reader.specs.declared.error.ReadError.{ReadError}
use Rattle.table_changes.specs.Commands.{Command, command_view}
use Rattle.table_changes.specs.declared.command.Command as d
use Rattle.commands.specs.Simulate.Simulation.{TellsScript}
use Rattle.commands.specs.declared.failure.Failure.{Failure}
use Rattle.commands.specs.declared.failure.Failure.TheVariants as f
use Rattle.commands.specs.declared.failure.InputFault.TheVariants as i

abbrev pub is_commit : StepOf → Bool
is_commit (Commit commands) = true
is_commit _ = false

-- the place of the first step that is not COMMIT
abbrev pub first_other : List LineOf → Option ℕ
first_other [] = None
first_other (line ∷ lines) = if is_commit line.step then first_other lines else Some line.place

-- the list of commands of a step that is COMMIT, before these lists
abbrev pub with_list : StepOf → List (List Command) → List (List Command)
with_list (Commit commands) lists = commands ∷ lists
with_list _ lists = lists

-- the lists of commands that are committed, in their order
abbrev pub lists_of : List LineOf → List (List Command)
lists_of [] = []
lists_of (line ∷ lines) = with_list line.step (lists_of lines)

-- a list of commands that was read
abbrev pub list_view : Vec d.Command → List Command
list_view commands = map command_view commands.items

-- the text is a script of these tables, each step is COMMIT, and these are the lists of commands
pub record OnlyCommits (tables : List Table) (text : List ℕ) (lists : List (List Command)) : Type 0 where
  pub steps : List LineOf
  pub reads : script_by tables text ≡ Ok steps
  pub none : first_other steps ≡ None
  pub lists_are : lists ≡ lists_of steps

-- it is a script, and the error is that of the first step that is not COMMIT: `Expected`, at its first word
pub record HasOtherStep (tables : List Table) (text : List ℕ) (error : ReadError) : Type 0 where
  pub steps : List LineOf
  pub reads : script_by tables text ≡ Ok steps
  pub place : first_other steps ≡ Some error.place
  pub kind : kind_name error.kind ≡ codes "Expected"

-- reading the script stops for its fault, a step other than COMMIT, or because memory ran out
abbrev pub IsOfScript : List Table → List ℕ → Failure → Type 0
IsOfScript tables text (f.Input (i.Script error)) =
    TellsScript (script_by tables text) error ⊎ HasOtherStep tables text error
IsOfScript tables text f.OutOfMemory = Unit {0}
IsOfScript tables text _ = ⊥

-- What the three parts of an input of `simulate` give: the verdict of the code on the sharding of its catalog, and the
-- steps of its script; or why they give none. The format is this program's own.
use Rattle.std.specs.Prelude.{◌≡◌, ◌≤◌, ℕ, List, length, map, Some, None, Result, Ok, Err}
use Rattle.filter_tree.specs.Expr.{Expr}
use Rattle.pub_catalog.specs.Catalogs.{CatalogOf}
use Rattle.pub_reader.specs.Scripts.{script_by}
use Rattle.pub_reader.specs.ScriptView.{line_view}
use Rattle.pub_reader.specs.Statements.{catalog_by}
use Rattle.pub_reader.specs.declared.script.Line.{Line}
use Rattle.replica_identity.specs.Plans.{plan_of}
use Rattle.shard_checker.specs.CatalogTruth.{ShardingIsWrong}
use Rattle.shard_checker.specs.CheckedView.{checked_view}
use Rattle.shard_checker.specs.Sound.{IsSound}
use Rattle.shard_checker.specs.Texts.{text_fault, trees_in}
use Rattle.shard_checker.specs.declared.checked.Checked.{Checked}
use Rattle.shard_checker.specs.declared.error.CheckError.{CheckError}
use Rattle.split_cert.specs.Tree.{Tree}
use Rattle.sql_reader.specs.Written.{as_filter}
use Rattle.commands.specs.Parts.{CutTwice, lines_of, three_parts}
use Rattle.commands.specs.Verdicts.{IsFirstRefusal, checked_by}
use Rattle.commands.specs.declared.failure.Failure.{Failure}
use Rattle.commands.specs.declared.failure.Failure.TheVariants as f
use Rattle.commands.specs.Simulate.Simulation.{IsSimulateFault}

-- ---- a verdict

-- the sharding is sound, there is no reason to refuse it, and what is checked is the catalog with its own plan
pub record Accepts (catalog : CatalogOf Expr) (trees : List Tree) (checked : Checked) : Type 0 where
  pub sound : IsSound catalog
  pub unrefused : IsFirstRefusal catalog trees None
  pub kept : checked_view checked ≡ checked_by catalog

-- this is the first reason to refuse it, and what it says is true
pub record RefusesSharding (catalog : CatalogOf Expr) (trees : List Tree) (error : CheckError) : Type 0 where
  pub refusal : IsFirstRefusal catalog trees (Some error)
  pub wrong : ShardingIsWrong catalog (plan_of catalog) trees error

abbrev pub IsVerdictOn : CatalogOf Expr → List Tree → Result Checked CheckError → Type 0
IsVerdictOn catalog trees (Ok checked) = Accepts catalog trees checked
IsVerdictOn catalog trees (Err error) = RefusesSharding catalog trees error

-- each line of the text is a certificate, and by them this is the verdict on the sharding of the catalog
pub record HasVerdict (catalog : CatalogOf Expr) (text : List ℕ) (verdict : Result Checked CheckError) : Type 0 where
  pub certificates : text_fault 1 (lines_of text) ≡ None
  pub is : IsVerdictOn catalog (trees_in (lines_of text)) verdict

-- ---- all parts

-- the first part is a catalog, the second gives the verdict on its sharding, and the third is a script of its tables
pub record Gives (parts : CutTwice) (verdict : Result Checked CheckError) (lines : List Line) : Type 0 where
  pub catalog : CatalogOf Expr
  pub reads : catalog_by as_filter parts.first ≡ Ok catalog
  pub has : HasVerdict catalog parts.second verdict
  pub script : script_by catalog.tables parts.third ≡ Ok (map line_view lines)
  pub few : length lines ≤ 100000

-- an input has this fault, or memory is refused
abbrev pub IsOfInput : List ℕ → Failure → Type 0
IsOfInput input (f.Input fault) = IsSimulateFault input fault
IsOfInput input f.OutOfMemory = Unit {0}
IsOfInput input _ = ⊥

-- each input with these parts has it
abbrev pub IsOfParts : CutTwice → Failure → Type 0
IsOfParts parts failure = (input : List ℕ) → three_parts input ≡ Some parts → IsOfInput input failure

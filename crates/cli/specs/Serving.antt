-- What `serve` answers: the first part of its input is a catalog, the second has the texts of the certificates of its
-- tables, one per line, and the third is a script, each step of which is COMMIT. If the sharding is sound, its
-- subscribers are served. The format is this program's own.
use Rattle.std.specs.Prelude.{◌≡◌, ◌⊎◌, ℕ, List, [], ◌∷◌, Option, Some, None, Ok, Result}
use Rattle.filter_tree.specs.Expr.{Expr}
use Rattle.pub_catalog.specs.Catalogs.{CatalogOf}
use Rattle.pub_reader.specs.Statements.{catalog_by}
use Rattle.sql_reader.specs.Written.{as_filter}
use Rattle.sql_reader.specs.declared.error.ReadError.{ReadError}
use Rattle.shard_checker.specs.Sound.{IsSound}
use Rattle.shard_checker.specs.Texts.{text_fault, trees_in}
use Rattle.split_cert.specs.Tree.{Tree}
use Rattle.table_changes.specs.Commands.{Command}
use Rattle.commands.specs.Verdicts.{IsFirstRefusal, SaysRefused, checked_by}
use Rattle.commands.specs.Output.{Ends}
use Rattle.commands.specs.Parts.{CutTwice, lines_of, three_parts}
use Rattle.commands.specs.Simulate.Simulation as simulation
use Rattle.commands.specs.declared.failure.Failure.{Failure}
use Rattle.commands.specs.declared.failure.InputFault.{InputFault}
use Rattle.commands.specs.declared.failure.InputFault.TheVariants as i
use Rattle.commands.specs.declared.failure.Status.{Status}
use Rattle.commands.specs.declared.failure.Status.TheVariants.{Refused}
use Rattle.cli.specs.Scripts.{OnlyCommits, HasOtherStep}
use Rattle.cli.specs.Telling as telling
use Rattle.cli.specs.declared.requests.Service.{Service}

-- there is no reason to refuse the sharding, it is sound, the session commits these lists, and the lines are the first
-- line and the last one
pub record AreServed (service : Service) (catalog : CatalogOf Expr) (trees : List Tree) (lists : List (List Command))
    (lines : List (List ℕ)) (status : Status) : Type 0 where
  pub sound : IsSound catalog
  pub unrefused : IsFirstRefusal catalog trees None
  pub written : telling.AreServeLines (telling.service_of service (checked_by catalog) lists) lines status

-- the line of the sharding's refusal
pub record IsRefusal (catalog : CatalogOf Expr) (trees : List Tree) (lines : List (List ℕ)) (status : Status) : Type 0
  where
    pub refused : SaysRefused catalog trees lines
    pub is : status ≡ Refused

-- The input has three parts, the first is a catalog, each line of the second is a certificate, and the third is a
-- script of its tables that only commits.
pub record IsServing (service : Service) (input : List ℕ) (lines : List (List ℕ)) (status : Status) : Type 0 where
  pub cut : CutTwice
  pub catalog : CatalogOf Expr
  pub parts : three_parts input ≡ Some cut
  pub reads : catalog_by as_filter cut.first ≡ Ok catalog
  pub certificates : text_fault 1 (lines_of cut.second) ≡ None
  pub lists : List (List Command)
  pub script : OnlyCommits catalog.tables cut.third lists
  pub result : AreServed service catalog (trees_in (lines_of cut.second)) lists lines status ⊎ IsRefusal catalog
      (trees_in (lines_of cut.second)) lines status

-- the same of a sharding that is accepted: it is sound, and there is no reason to refuse it
pub record IsAccepted (input : List ℕ) : Type 0 where
  pub cut : CutTwice
  pub catalog : CatalogOf Expr
  pub parts : three_parts input ≡ Some cut
  pub reads : catalog_by as_filter cut.first ≡ Ok catalog
  pub certificates : text_fault 1 (lines_of cut.second) ≡ None
  pub lists : List (List Command)
  pub script : OnlyCommits catalog.tables cut.third lists
  pub sound : IsSound catalog
  pub unrefused : IsFirstRefusal catalog (trees_in (lines_of cut.second)) None

-- Such an input has an accepted sharding, and the line that it listens is written, but not how it ended.
pub record HasListened (service : Service) (input : List ℕ) (lines : List (List ℕ)) : Type 0 where
  pub accepted : IsAccepted input
  pub are : lines ≡ telling.listening_line service.port ∷ []

abbrev pub IsBegunServing : Service → List ℕ → List (List ℕ) → Type 0
IsBegunServing service input lines = (lines ≡ []) ⊎ HasListened service input lines

-- the first is a catalog, each line of the second is a certificate, and the third is a script of its tables, whose
-- first step that is not COMMIT is at this place
pub record IsOtherStep (input : List ℕ) (error : ReadError) : Type 0 where
  pub cut : CutTwice
  pub catalog : CatalogOf Expr
  pub parts : three_parts input ≡ Some cut
  pub reads : catalog_by as_filter cut.first ≡ Ok catalog
  pub certificates : text_fault 1 (lines_of cut.second) ≡ None
  pub script : HasOtherStep catalog.tables cut.third error

-- a step is not COMMIT
abbrev pub IsOther : List ℕ → InputFault → Type 0
IsOther input (i.Script error) = IsOtherStep input error
IsOther input _ = ⊥

-- the input has this fault: one that it has for `simulate`, or a step that is not COMMIT
abbrev pub IsServeFault : List ℕ → InputFault → Type 0
IsServeFault input fault = simulation.IsSimulateFault input fault ⊎ IsOther input fault

abbrev pub EndsService : Service → List ℕ → Option (List ℕ) → Option (List ℕ) → Result Status Failure → Type 0
EndsService service input old new result =
    Ends (IsServing service input) (IsBegunServing service input) (IsServeFault input) old new result

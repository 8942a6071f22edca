-- What `simulate` answers: the first part of its input is a catalog, the second has the texts of the certificates of
-- its tables, one per line, and the third is a script, whose steps are executed if the sharding is sound. The format is
-- this program's own.
use Rattle.std.specs.Prelude.{◌≡◌, ◌⊎◌, ℕ, false, List, [], ◌∷◌, Option, Some, None, is_none, Ok, Result}
use Rattle.filter_tree.specs.Expr.{Expr}
use Rattle.pub_catalog.specs.Catalogs.{CatalogOf}
use Rattle.pub_reader.specs.Scripts.{LineOf, script_by}
use Rattle.pub_reader.specs.Statements.{catalog_by}
use Rattle.sql_reader.specs.Reading.{Verdict, Tells, read_fault}
use Rattle.sql_reader.specs.Written.{as_filter}
use Rattle.sql_reader.specs.declared.error.ReadError.{ReadError}
use Rattle.shard_checker.specs.Sound.{IsSound}
use Rattle.shard_checker.specs.Texts.{text_fault, trees_in}
use Rattle.shard_checker.specs.declared.text_error.TextError.TheVariants.{Text}
use Rattle.split_cert.specs.Tree.{Tree}
use Rattle.split_cert.specs.declared.error.CertError.{CertError}
use Rattle.commands.specs.Output.{Ends}
use Rattle.commands.specs.Verdicts.{IsFirstRefusal, SaysRefused, checked_by}
use Rattle.commands.specs.Parts.{CutTwice, three_parts, lines_of}
use Rattle.commands.specs.Simulate.Steps.{AreFirstSteps}
use Rattle.commands.specs.declared.failure.Failure.{Failure}
use Rattle.commands.specs.declared.failure.Failure.TheVariants as f
use Rattle.commands.specs.declared.failure.InputFault.{InputFault}
use Rattle.commands.specs.declared.failure.InputFault.TheVariants as i
use Rattle.commands.specs.declared.failure.Status.{Status}
use Rattle.commands.specs.declared.failure.Status.TheVariants.{Done, Refused}

-- ---- what is answered

-- there is no reason to refuse the sharding, it is sound, and the lines are those of the first steps, with a log of
-- at most `limit` commits
pub record AreMade (limit : ℕ) (catalog : CatalogOf Expr) (trees : List Tree) (steps left : List LineOf)
    (lines : List (List ℕ)) : Type 0 where
  pub sound : IsSound catalog
  pub unrefused : IsFirstRefusal catalog trees None
  pub first : AreFirstSteps (checked_by catalog) limit steps left lines

-- the lines of all steps, or the line of the sharding's refusal
abbrev pub IsResult : ℕ → CatalogOf Expr → List Tree → List LineOf → List LineOf → List (List ℕ) → Status → Type 0
IsResult limit catalog trees steps left lines Done = AreMade limit catalog trees steps left lines
IsResult limit catalog trees steps left lines Refused = SaysRefused catalog trees lines
IsResult limit catalog trees steps left lines _ = ⊥

-- The input has three parts, the first is a catalog, each line of the second is a certificate, and the third is a
-- script of its tables. The last steps are left.
pub record IsSimulation (limit : ℕ) (input : List ℕ) (left : List LineOf) (lines : List (List ℕ)) (status : Status) :
    Type 0 where
  pub cut : CutTwice
  pub catalog : CatalogOf Expr
  pub steps : List LineOf
  pub parts : three_parts input ≡ Some cut
  pub reads : catalog_by as_filter cut.first ≡ Ok catalog
  pub certificates : text_fault 1 (lines_of cut.second) ≡ None
  pub script : script_by catalog.tables cut.third ≡ Ok steps
  pub result : IsResult limit catalog (trees_in (lines_of cut.second)) steps left lines status

-- some step is left
pub record IsBegunSimulation (limit : ℕ) (input : List ℕ) (lines : List (List ℕ)) : Type 0 where
  pub step : LineOf
  pub later : List LineOf
  pub first : IsSimulation limit input (step ∷ later) lines Done

-- ---- why there is no answer: faults of the catalog go before those of certificates, and these before the script's

-- the input has three parts, and the first is no catalog, for the fault that is the error
pub record IsBadSimulateCatalog (input : List ℕ) (error : ReadError) : Type 0 where
  pub cut : CutTwice
  pub parts : three_parts input ≡ Some cut
  pub tells : Tells error (catalog_by as_filter cut.first)
  pub known : is_none (read_fault error) ≡ false

-- the first is a catalog, and the first line of the second that is no certificate has this number and this fault
pub record IsBadSimulateCertificate (input : List ℕ) (number : ℕ) (error : CertError) : Type 0 where
  pub cut : CutTwice
  pub catalog : CatalogOf Expr
  pub parts : three_parts input ≡ Some cut
  pub reads : catalog_by as_filter cut.first ≡ Ok catalog
  pub first : text_fault 1 (lines_of cut.second) ≡ Some (Text number error)

-- the error is the fault of a text that is no script
pub record TellsScript (outcome : Verdict (List LineOf)) (error : ReadError) : Type 0 where
  pub tells : Tells error outcome
  pub known : is_none (read_fault error) ≡ false

-- the first is a catalog, each line of the second is a certificate, and the third is no script of its tables, for the
-- fault that is the error
pub record IsBadScript (input : List ℕ) (error : ReadError) : Type 0 where
  pub cut : CutTwice
  pub catalog : CatalogOf Expr
  pub parts : three_parts input ≡ Some cut
  pub reads : catalog_by as_filter cut.first ≡ Ok catalog
  pub certificates : text_fault 1 (lines_of cut.second) ≡ None
  pub script : TellsScript (script_by catalog.tables cut.third) error

abbrev pub IsSimulateFault : List ℕ → InputFault → Type 0
IsSimulateFault input i.Unread = ⊥
IsSimulateFault input i.Parts = three_parts input ≡ None
IsSimulateFault input (i.Catalog error) = IsBadSimulateCatalog input error
IsSimulateFault input (i.Table name) = ⊥
IsSimulateFault input (i.Certificate number error) = IsBadSimulateCertificate input number error
IsSimulateFault input (i.Script error) = IsBadScript input error

-- ---- reading the script

-- it stops for the fault of the text, or because memory ran out
abbrev pub IsOfScript : Verdict (List LineOf) → Failure → Type 0
IsOfScript outcome (f.Input (i.Script error)) = TellsScript outcome error
IsOfScript outcome f.OutOfMemory = Unit {0}
IsOfScript outcome _ = ⊥

-- ---- what is written

-- the lines of all steps, or of the sharding's refusal, as far as memory and the writer go; or the input has a fault
abbrev pub EndsSimulation : ℕ → List ℕ → Option (List ℕ) → Option (List ℕ) → Result Status Failure → Type 0
EndsSimulation limit input old new result =
    Ends (IsSimulation limit input []) (λ lines. (lines ≡ []) ⊎ IsBegunSimulation limit input lines)
    (IsSimulateFault input) old
    new result

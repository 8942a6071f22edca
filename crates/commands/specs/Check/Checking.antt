-- What `check` answers: the first part of its input is a catalog, and the second has the texts of the certificates of
-- its tables, one per line, in the order of the tables. With `--show`, the catalog is written before the verdict on it.
-- The format is this program's own.
use Rattle.std.specs.Prelude.{◌≡◌, ℕ, Bool, List, [], ◌++◌, Option, Some, None, Result, Ok}
use Rattle.catalog_text.specs.CatalogText.{catalog_text}
use Rattle.catalog_text.specs.FilterText.{text_if}
use Rattle.filter_tree.specs.Expr.{Expr}
use Rattle.pub_catalog.specs.Catalogs.{CatalogOf}
use Rattle.pub_reader.specs.Statements.{catalog_by}
use Rattle.sql_reader.specs.Written.{as_filter}
use Rattle.shard_checker.specs.Texts.{text_fault, trees_in}
use Rattle.shard_checker.specs.declared.text_error.TextError.TheVariants.{Text}
use Rattle.split_cert.specs.declared.error.CertError.{CertError}
use Rattle.commands.specs.Verdicts.{IsVerdict}
use Rattle.commands.specs.BadCatalogs.{IsBadCatalog}
use Rattle.commands.specs.Output.{Ends, text_of}
use Rattle.commands.specs.Parts.{CutOnce, two_parts, lines_of}
use Rattle.commands.specs.declared.failure.Failure.{Failure}
use Rattle.commands.specs.declared.failure.InputFault.{InputFault}
use Rattle.commands.specs.declared.failure.InputFault.TheVariants as i
use Rattle.commands.specs.declared.failure.Status.{Status}

-- the input has two parts, the first is a catalog, each line of the second is a certificate, and the sharding is
-- accepted or refused; what is written is the catalog's text, if it is to be shown, and then the line of the verdict
pub record IsCheck (shows : Bool) (input : List ℕ) (lines : List (List ℕ)) (status : Status) : Type 0 where
  pub cut : CutOnce
  pub catalog : CatalogOf Expr
  pub parts : two_parts input ≡ Some cut
  pub reads : catalog_by as_filter cut.part ≡ Ok catalog
  pub certificates : text_fault 1 (lines_of cut.rest) ≡ None
  pub verdict_lines : List (List ℕ)
  pub verdict : IsVerdict catalog (trees_in (lines_of cut.rest)) verdict_lines status
  pub text : text_of lines ≡ text_if shows (catalog_text catalog) ++ text_of verdict_lines

-- ---- why there is no answer

-- the input has two parts, the first is a catalog, and the first line of the second that is no certificate has this
-- number and this fault
pub record IsBadCheckCertificate (input : List ℕ) (number : ℕ) (error : CertError) : Type 0 where
  pub cut : CutOnce
  pub catalog : CatalogOf Expr
  pub parts : two_parts input ≡ Some cut
  pub reads : catalog_by as_filter cut.part ≡ Ok catalog
  pub first : text_fault 1 (lines_of cut.rest) ≡ Some (Text number error)

abbrev pub IsCheckFault : List ℕ → InputFault → Type 0
IsCheckFault input i.Unread = ⊥
IsCheckFault input i.Parts = two_parts input ≡ None
IsCheckFault input (i.Catalog error) = IsBadCatalog input error
IsCheckFault input (i.Table name) = ⊥
IsCheckFault input (i.Certificate number error) = IsBadCheckCertificate input number error
IsCheckFault input (i.Script error) = ⊥

-- ---- what is written

-- the check is answered, as far as memory and the writer go, or the input has a fault and nothing is written
abbrev pub EndsCheck : Bool → List ℕ → Option (List ℕ) → Option (List ℕ) → Result Status Failure → Type 0
EndsCheck shows input old new result =
    Ends (IsCheck shows input) (λ lines. lines ≡ []) (IsCheckFault input) old new result

-- What `show` answers: its input is a catalog, which is written as SQL. The format is that of `catalog_text`.
use Rattle.std.specs.Prelude.{◌≡◌, ℕ, List, [], Option, None, Result, Ok}
use Rattle.catalog_text.specs.CatalogText.{catalog_text}
use Rattle.filter_tree.specs.Expr.{Expr}
use Rattle.pub_catalog.specs.Catalogs.{CatalogOf}
use Rattle.pub_reader.specs.Statements.{catalog_by}
use Rattle.sql_reader.specs.Written.{as_filter}
use Rattle.commands.specs.Make.Making.{IsMakeFault}
use Rattle.commands.specs.Output.{Ends, text_of}
use Rattle.commands.specs.Parts.{cut_of}
use Rattle.commands.specs.declared.failure.Failure.{Failure}
use Rattle.commands.specs.declared.failure.Status.{Status}
use Rattle.commands.specs.declared.failure.Status.TheVariants.{Done}

-- the whole input is a catalog, and the lines are its text
pub record IsShowing (input : List ℕ) (lines : List (List ℕ)) (status : Status) : Type 0 where
  pub catalog : CatalogOf Expr
  pub whole : cut_of input ≡ None
  pub reads : catalog_by as_filter input ≡ Ok catalog
  pub text : text_of lines ≡ catalog_text catalog
  pub done : status ≡ Done

-- the catalog is written, as far as memory and the writer go; or the input has a fault, one of those of `make`, and
-- nothing is written
abbrev pub EndsShowing : List ℕ → Option (List ℕ) → Option (List ℕ) → Result Status Failure → Type 0
EndsShowing input old new result = Ends (IsShowing input) (λ lines. lines ≡ []) (IsMakeFault input) old new result

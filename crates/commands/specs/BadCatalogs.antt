-- Why an input of two parts has no catalog, in the program's own format.
use Rattle.std.specs.Prelude.{◌≡◌, ℕ, false, List, Some, is_none}
use Rattle.pub_reader.specs.Statements.{catalog_by}
use Rattle.sql_reader.specs.Reading.{Tells, read_fault}
use Rattle.sql_reader.specs.Written.{as_filter}
use Rattle.sql_reader.specs.declared.error.ReadError.{ReadError}
use Rattle.commands.specs.Parts.{CutOnce, two_parts}

-- the input has two parts, and the first is no catalog, for the fault that is the error
pub record IsBadCatalog (input : List ℕ) (error : ReadError) : Type 0 where
  pub cut : CutOnce
  pub parts : two_parts input ≡ Some cut
  pub tells : Tells error (catalog_by as_filter cut.part)
  pub known : is_none (read_fault error) ≡ false

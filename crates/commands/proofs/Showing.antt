-- A catalog is written.
use Rattle.std.proofs.Common.{◌≡◌, ◌∙◌, ℕ, List, [], Option, None, refl, sym}
use Rattle.std.specs.Prelude.{Result, Ok, IfOk, IfErr, OnOk}
use Rattle.std.specs.Io.KnownBytes.{Appends}
use Rattle.catalog_text.specs.CatalogText.{catalog_text}
use Rattle.filter_tree.specs.Expr.{Expr}
use Rattle.pub_catalog.specs.Catalogs.{CatalogOf}
use Rattle.pub_reader.specs.Statements.{catalog_by}
use Rattle.sql_reader.specs.Written.{as_filter}
use Rattle.commands.proofs.ShownLines.{catalog_lines}
use Rattle.commands.proofs.Writing.{text_ends}
use Rattle.commands.specs.Make.Making.{IsMakeFault}
use Rattle.commands.specs.Output.{StopsText}
use Rattle.commands.specs.Parts.{cut_of}
use Rattle.commands.specs.Show.Showing.{EndsShowing, IsShowing}
use Rattle.commands.specs.declared.failure.Failure.{Failure}
use Rattle.commands.specs.declared.failure.Status.{Status}
use Rattle.commands.specs.declared.failure.Status.TheVariants.{Done}

pub shown : (input : List ℕ) (catalog : CatalogOf Expr) → cut_of input ≡ None → catalog_by as_filter input ≡ Ok catalog
    → (text : List ℕ) → text ≡ catalog_text catalog → (old new : Option (List ℕ)) (result : Result Status Failure)
    → IfOk result (λ s. s ≡ Done) → OnOk result (Appends old new text) → IfErr result (StopsText text old new)
    → EndsShowing input old new result
shown input catalog whole reads text is old new result same appends stops =
    let are = catalog_lines catalog in
    text_ends (IsShowing input) (λ lines. lines ≡ []) (IsMakeFault input) refl text are.0 (are.1 ∙ sym is) Done
    old new result
    (record { catalog = catalog; whole = whole; reads = reads; text = are.1; done = refl }) same appends stops

-- That a catalog's filters mean what is written in its text.
use Rattle.std.specs.Prelude.{◌≡◌, List, Ok}
use Rattle.filter_tree.specs.Datum.{Datum}
use Rattle.filter_tree.specs.Expr.{Expr, meaning}
use Rattle.sql_reader.specs.Reading.{Verdict}
use Rattle.sql_reader.specs.Written.{Written, written_meaning, filter_of}
use Rattle.pub_catalog.specs.Catalogs.{CatalogOf, catalog_map}

-- On every row, every filter of a catalog means what its expression means as it is written.
pub record MeansAsWritten (read : Verdict (CatalogOf Written)) (catalog : CatalogOf Expr) : Type 0 where
  pub written : CatalogOf Written
  pub is_read : read ≡ Ok written
  pub trees : catalog ≡ catalog_map filter_of written
  pub meanings : (row : List Datum)
      → catalog_map (λ filter. meaning filter row) catalog
      ≡ catalog_map (λ expression. written_meaning expression row) written

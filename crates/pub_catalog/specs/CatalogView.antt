-- A catalog of the program as plain data.
use Rattle.std.specs.Prelude.{map}
use Rattle.filter_tree.specs.Expr.{Expr}
use Rattle.pub_catalog.specs.declared.catalog.Catalog.{Catalog}
use Rattle.pub_catalog.specs.Catalogs.{CatalogOf}
pub use Rattle.pub_catalog.specs.PublicationView.{entry_view, publication_view}

abbrev pub catalog_view : Catalog → CatalogOf Expr
catalog_view catalog =
    record {
      tables = catalog.tables.items;
      publications =
          map publication_view catalog.publications.items;
      subscriptions = catalog.subscriptions.items;
    }

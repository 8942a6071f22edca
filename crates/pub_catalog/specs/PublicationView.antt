-- A publication of the program as plain data.
use Rattle.std.specs.Prelude.{map}
use Rattle.std.specs.Option.{option_map}
use Rattle.filter_tree.specs.Expr.{Expr}
use Rattle.filter_tree.specs.Shape.{expr_view}
use Rattle.pub_catalog.specs.declared.catalog.Entry.{Entry}
use Rattle.pub_catalog.specs.declared.catalog.Publication.{Publication}
use Rattle.pub_catalog.specs.Catalogs.{EntryOf, PublicationOf}

abbrev pub entry_view : Entry → EntryOf Expr
entry_view entry = record { table = entry.table; filter = option_map expr_view entry.filter }

abbrev pub publication_view : Publication → PublicationOf Expr
publication_view publication =
    record {
      name = publication.name;
      publishes = publication.publishes;
      entries =
          map entry_view publication.entries.items;
    }

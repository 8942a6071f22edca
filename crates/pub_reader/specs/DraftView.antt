-- A catalog while it is being read, as plain data.
use Rattle.std.specs.Prelude.{map}
use Rattle.filter_tree.specs.Expr.{Expr}
use Rattle.pub_reader.specs.declared.coverage.Coverage.{Coverage}
use Rattle.pub_reader.specs.declared.coverage.ObjectKind.{ObjectKind}
use Rattle.pub_reader.specs.declared.draft.Draft.{Draft}
use Rattle.pub_reader.specs.declared.draft.DraftPublication.{DraftPublication}
use Rattle.pub_catalog.specs.CatalogView.{entry_view}
use Rattle.pub_reader.specs.Drafts.{CoverageOf, DraftPublicationOf, DraftOf}
use Rattle.pub_reader.specs.Objects.{ObjectsOf}

abbrev pub coverage_view : Coverage → CoverageOf Expr
coverage_view coverage =
    record {
      entries = map entry_view coverage.entries.items;
      schemas = coverage.schemas;
      everything =
          coverage.everything;
    }

abbrev pub objects_view : ObjectKind → Coverage → ObjectsOf Expr
objects_view kind coverage = record { kind = kind; coverage = coverage_view coverage }

abbrev pub draft_publication_view : DraftPublication → DraftPublicationOf Expr
draft_publication_view publication =
    record {
      name = publication.name;
      publishes = publication.publishes;
      coverage =
          coverage_view publication.coverage;
    }

abbrev pub draft_view : Draft → DraftOf Expr
draft_view draft = record {
  schemas = draft.schemas;
  tables = draft.tables.items;
  publications =
      map draft_publication_view draft.publications.items;
  subscriptions = draft.subscriptions.items;
}

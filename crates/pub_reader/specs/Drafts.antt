-- What a catalog has while it is being read, and what it becomes at its end: PostgreSQL 15, SQL Commands, CREATE
-- PUBLICATION: FOR ALL TABLES and FOR TABLES IN SCHEMA also cover tables that are created later.
use Rattle.std.specs.Prelude.{ℕ, suc, Bool, false, ◌||◌, ◌&&◌, ◌==◌, if◌then◌else◌, List, [], ◌∷◌, ◌++◌, map, position, Option, None, codes}
use Rattle.std.specs.List.{list_any}
use Rattle.std.specs.Option.{is_some, option_map, option_to_list}
use Rattle.std.specs.Str.{bytes_eq}
use Rattle.filter_tree.specs.declared.table.Table.{Table}
use Rattle.filter_tree.specs.declared.table.UniqueIndex.{UniqueIndex}
use Rattle.filter_tree.specs.Expr.{Expr}
use Rattle.pub_catalog.specs.declared.catalog.Operations.{Operations}
use Rattle.pub_catalog.specs.declared.catalog.Subscription.{Subscription}
use Rattle.pub_catalog.specs.Catalogs.{EntryOf, PublicationOf, CatalogOf, entry_map}

-- what a publication covers: the tables that it names, and what it carries whole, the tables of some schemas or every
-- table
pub record CoverageOf (S : Type 0) : Type 0 where
  pub entries : List (EntryOf S)
  pub schemas : List (List ℕ)
  pub everything : Bool

pub record DraftPublicationOf (S : Type 0) : Type 0 where
  pub name : List ℕ
  pub publishes : Operations
  pub coverage : CoverageOf S

-- schemas, tables, publications and subscriptions, each in the order in which they are created
pub record DraftOf (S : Type 0) : Type 0 where
  pub schemas : List (List ℕ)
  pub tables : List Table
  pub publications : List (DraftPublicationOf S)
  pub subscriptions : List Subscription

abbrev pub nothing_covered : {S : Type 0} → CoverageOf S
nothing_covered = record { entries = []; schemas = []; everything = false }

abbrev pub public_schema : List ℕ
public_schema = codes "public"

-- the schema "public" exists from the start
abbrev pub no_draft : {S : Type 0} → DraftOf S
no_draft = record { schemas = public_schema ∷ []; tables = []; publications = []; subscriptions = [] }

-- ---- names

abbrev pub find_schema : List ℕ → List (List ℕ) → Option ℕ
find_schema text schemas = position (bytes_eq text) schemas

-- the names with one more added, if it is new
abbrev pub with_name : List (List ℕ) → List ℕ → List (List ℕ)
with_name names text = if list_any (bytes_eq text) names then names else names ++ text ∷ []

-- the table with this schema and name
abbrev pub is_table : List ℕ → List ℕ → Table → Bool
is_table schema text table = bytes_eq schema table.schema && bytes_eq text table.name

abbrev pub find_table : List ℕ → List ℕ → List Table → Option ℕ
find_table schema text tables = position (is_table schema text) tables

abbrev pub find_index : List ℕ → List UniqueIndex → Option ℕ
find_index text indexes = position (λ index. bytes_eq text index.name) indexes

-- Tables and indexes of a schema share their names: whether the table, or an index of it, has this name.
abbrev pub has_name : List ℕ → List ℕ → Table → Bool
has_name schema text table =
    bytes_eq schema table.schema && (bytes_eq text table.name || is_some (find_index text table.indexes))

-- the table that has this name in the schema, or an index of this name
abbrev pub find_relation : List ℕ → List ℕ → List Table → Option ℕ
find_relation schema text tables = position (has_name schema text) tables

abbrev pub find_publication : {S : Type 0} → List ℕ → List (DraftPublicationOf S) → Option ℕ
find_publication text publications = position (λ p. bytes_eq text p.name) publications

abbrev pub find_subscription : List ℕ → List Subscription → Option ℕ
find_subscription text subscriptions = position (λ s. bytes_eq text s.name) subscriptions

-- ---- the filters on a table, as trees

abbrev pub filter_on : {S : Type 0} → (S → Expr) → ℕ → EntryOf S → List Expr
filter_on tree number entry = if entry.table == number then option_to_list (option_map tree entry.filter) else []

abbrev pub filters_in : {S : Type 0} → (S → Expr) → ℕ → List (EntryOf S) → List Expr
filters_in tree number [] = []
filters_in tree number (entry ∷ entries) = filter_on tree number entry ++ filters_in tree number entries

abbrev pub filters_on : {S : Type 0} → (S → Expr) → ℕ → List (DraftPublicationOf S) → List Expr
filters_on tree number [] = []
filters_on tree number (publication ∷ publications) =
    filters_in tree number publication.coverage.entries ++ filters_on tree number publications

-- ---- the end of the catalog

abbrev pub takes_table : Bool → List (List ℕ) → Table → Bool
takes_table everything schemas table = everything || is_some (find_schema table.schema schemas)

-- a whole entry for each table that is covered; the first table has this number
abbrev pub whole_from : {S : Type 0} → (Table → Bool) → ℕ → List Table → List (EntryOf S)
whole_from covers number [] = []
whole_from covers number (table ∷ tables) =
    if covers table then record { table = number; filter = None } ∷ whole_from covers (suc number) tables
    else whole_from covers (suc number) tables

-- the entries of a publication: the tables that it names, and then each table that it carries whole
abbrev pub resolved_entries : {S : Type 0} → List Table → CoverageOf S → List (EntryOf S)
resolved_entries tables coverage =
    coverage.entries ++ whole_from (takes_table coverage.everything coverage.schemas) 0 tables

abbrev pub resolved_publication : {S : Type 0} → List Table → DraftPublicationOf S → PublicationOf S
resolved_publication tables publication =
    record {
      name = publication.name;
      publishes = publication.publishes;
      entries =
          resolved_entries tables publication.coverage;
    }

-- the catalog, after all tables were created
abbrev pub resolved : {S : Type 0} → DraftOf S → CatalogOf S
resolved draft = record {
  tables = draft.tables;
  publications =
      map (resolved_publication draft.tables) draft.publications;
  subscriptions = draft.subscriptions;
}

-- ---- the same with other filters

abbrev pub coverage_map : {S T : Type 0} → (S → T) → CoverageOf S → CoverageOf T
coverage_map f coverage =
    record {
      entries = map (entry_map f) coverage.entries;
      schemas = coverage.schemas;
      everything =
          coverage.everything;
    }

abbrev pub draft_publication_map : {S T : Type 0} → (S → T) → DraftPublicationOf S → DraftPublicationOf T
draft_publication_map f publication =
    record {
      name = publication.name;
      publishes = publication.publishes;
      coverage =
          coverage_map f publication.coverage;
    }

abbrev pub draft_map : {S T : Type 0} → (S → T) → DraftOf S → DraftOf T
draft_map f draft = record {
  schemas = draft.schemas;
  tables = draft.tables;
  publications =
      map (draft_publication_map f) draft.publications;
  subscriptions = draft.subscriptions;
}

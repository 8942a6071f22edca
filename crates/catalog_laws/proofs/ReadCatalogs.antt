-- In a catalog that is read names differ, and each number is that of a column, an index, a table or a publication. So
-- its text tells it: the law.
use Rattle.std.proofs.Common.{◌≡◌, ℕ, zero, suc, ◌<◌, Bool, true, false, ◌&&◌, List, [], ◌∷◌, All, length, get_or, map, refl, sym, subst, arith}
use Rattle.std.specs.Prelude.{Ok, Err, slice_get}
use Rattle.std.specs.List.{AllByRecursion, IsDistinct}
use Rattle.std.specs.Str.{bytes_eq}
use Rattle.std.proofs.lemmas.List.{length-map}
use Rattle.std.proofs.lemmas.List.Elements.{All-cons, All-nil}
use Rattle.filter_tree.specs.Expr.{Expr}
use Rattle.filter_tree.specs.declared.table.Column.{Column}
use Rattle.filter_tree.specs.declared.table.Identity.{Identity}
use Rattle.filter_tree.specs.declared.table.Identity.TheVariants.{Default, Index, Full, Nothing}
use Rattle.filter_tree.specs.declared.table.Table.{Table}
use Rattle.filter_tree.specs.declared.table.UniqueIndex.{UniqueIndex}
use Rattle.sql_reader.specs.Items.{Items, items_of}
use Rattle.sql_reader.specs.Reading.{Outcome}
use Rattle.sql_reader.specs.Written.{as_filter}
use Rattle.sql_reader.proofs.Keeping.{Gives}
use Rattle.pub_catalog.specs.CatalogEntries.{AllCarryKnown}
use Rattle.pub_catalog.specs.CatalogLimits.{IsIdentity}
use Rattle.pub_catalog.specs.Catalogs.{CatalogOf}
use Rattle.pub_catalog.specs.IndexIdentities.{identifies}
use Rattle.pub_reader.specs.Drafts.{DraftOf, no_draft, resolved_publication, resolved}
use Rattle.pub_reader.specs.Statements.{statements, finished, catalog_by}
use Rattle.pub_reader.specs.WellFormed.{names_of_tables, same_name, IsWellFormedTable, IsWellFormed}
use Rattle.pub_reader.proofs.KeptEntries.{resolved_entries_known}
use Rattle.pub_reader.proofs.OwnNames.{resolved_names}
use Rattle.pub_reader.proofs.WellFormedLemmas.{catalogs_are_well_formed}
use Rattle.catalog_laws.specs.Laws.{TextsTellCatalogs}
use Rattle.catalog_laws.proofs.CatalogTexts.{IsClearCatalog, catalogs_tell}
use Rattle.catalog_laws.proofs.KeptDrafts.{Kept, statements-make}
use Rattle.catalog_laws.proofs.ListParts.{later_all, first_differ, later_differ}
use Rattle.catalog_laws.proofs.NamedPlaces.{same_text}
use Rattle.catalog_laws.proofs.PublicationTexts.{TakesFirst}
use Rattle.catalog_laws.proofs.StatementWords.{IsOneOf}
use Rattle.catalog_laws.proofs.TableTexts.{Relation, relation, IsClear}

-- ---- names that differ

abbrev index_relations : Table → List Relation
index_relations table = map (λ (index : UniqueIndex). (table.schema, index.name)) table.indexes

of_tables : (P : Relation → Type 0) (tables : List Table) → AllByRecursion P (names_of_tables tables)
    → AllByRecursion P (map relation tables)
of_tables P [] h = tt
of_tables P (table ∷ tables) h =
    (h.0, of_tables P tables (later_all P (index_relations table) (names_of_tables tables) h.1))

tables_differ : (tables : List Table) → IsDistinct same_name (names_of_tables tables)
    → IsDistinct same_name (map relation tables)
unfolding IsDistinct
tables_differ [] h = tt
tables_differ (table ∷ tables) h = (
  of_tables (λ r. same_name (relation table) r ≡ false) tables
      (later_all (λ r. same_name (relation table) r ≡ false) (index_relations table) (names_of_tables tables) h.0),
  tables_differ tables (later_differ same_name (index_relations table) (names_of_tables tables) h.1),
)

-- the test of one text, where the other one is the same
other_differs : (is other : Bool) → is ≡ true → (is && other) ≡ false → other ≡ false
other_differs true other e h = h
other_differs false other e h = absurd cc

other_names : (schema name : List ℕ) (indexes : List UniqueIndex)
    → AllByRecursion (λ r. same_name (schema, name) r ≡ false)
    (map (λ (index : UniqueIndex). (schema, index.name)) indexes)
    → AllByRecursion (λ other. bytes_eq name other ≡ false) (map (λ (index : UniqueIndex). index.name) indexes)
other_names schema name [] h = tt
other_names schema name (index ∷ indexes) h = (
  other_differs (bytes_eq schema schema) (bytes_eq name index.name) (same_text schema) h.0,
  other_names schema name indexes h.1,
)

names_differ : (schema : List ℕ) (indexes : List UniqueIndex)
    → IsDistinct same_name (map (λ (index : UniqueIndex). (schema, index.name)) indexes)
    → IsDistinct bytes_eq (map (λ (index : UniqueIndex). index.name) indexes)
unfolding IsDistinct
names_differ schema [] h = tt
names_differ schema (index ∷ indexes) h =
    (other_names schema index.name indexes h.0, names_differ schema indexes h.1)

abbrev HasOwnIndexes : Table → Type 0
HasOwnIndexes table = IsDistinct bytes_eq (map (λ index. index.name) table.indexes)

indexes_differ : (tables : List Table) → IsDistinct same_name (names_of_tables tables) → All HasOwnIndexes tables
unfolding IsDistinct
indexes_differ [] h = All-nil HasOwnIndexes
indexes_differ (table ∷ tables) h =
    All-cons HasOwnIndexes table tables
    (names_differ table.schema table.indexes
    (first_differ same_name (index_relations table) (names_of_tables tables) h.1))
    (indexes_differ tables (later_differ same_name (index_relations table) (names_of_tables tables) h.1))

-- ---- tables

index_within : (columns : List Column) (indexes : List UniqueIndex) (number : ℕ)
    → identifies columns (slice_get indexes number) ≡ true → number < length indexes
index_within columns [] number h = absurd cc
index_within columns (index ∷ indexes) zero h = omega arith
index_within columns (index ∷ indexes) (suc number) h = omega (arith, index_within columns indexes number h)

is_one_of : (columns : List Column) (indexes : List UniqueIndex) (identity : Identity)
    → IsIdentity columns indexes identity → IsOneOf indexes identity
is_one_of columns indexes (Index number) h = index_within columns indexes number h
is_one_of columns indexes Default h = tt
is_one_of columns indexes Full h = tt
is_one_of columns indexes Nothing h = tt

-- ---- the catalog

from_draft : (draft : DraftOf Expr) → Kept draft → IsWellFormed (resolved draft) → AllCarryKnown (resolved draft)
    → IsClearCatalog (resolved draft)
from_draft draft kept formed known =
    let same_count = length-map draft.publications (resolved_publication draft.tables) in
    record {
      named = tables_differ draft.tables formed.named;
      tables = λ n d low. clear_table (get_or draft.tables n d) (formed.tables n d low)
          (indexes_differ draft.tables formed.named n d low) (kept.identities n d low);
      entries = known;
      publications = subst (IsDistinct bytes_eq) (sym (resolved_names draft.tables draft.publications)) kept.named;
      taken = subst (λ count. All (TakesFirst count) draft.subscriptions) (sym same_count) kept.taken;
    }
  where
    clear_table : (table : Table) → IsWellFormedTable table → HasOwnIndexes table
        → IsIdentity table.columns table.indexes table.identity → IsClear table
    clear_table table formed apart identity = record {
      named = formed.named;
      keyed = formed.keyed.known;
      indexed = λ m e inside. (formed.indexed m e inside).known;
      apart = apart;
      identified = is_one_of table.columns table.indexes table.identity identity;
    }

clear_by : (ts : Items) (read : Outcome (DraftOf Expr)) → statements as_filter no_draft ts ≡ read
    → (catalog : CatalogOf Expr) → finished read ≡ Ok catalog → IsWellFormed catalog
    → IsClearCatalog catalog
clear_by ts (Ok (draft, rest)) e catalog is formed =
    let same : resolved draft ≡ catalog = cc in
    let kept = subst (Gives Kept) e ((statements-make as_filter).gives ts) in
    subst IsClearCatalog same
    (from_draft draft kept (subst IsWellFormed (sym same) formed) (resolved_entries_known ts draft rest e))
clear_by ts (Err fault) e catalog is formed = absurd cc

clear : (text : List ℕ) (catalog : CatalogOf Expr) → catalog_by as_filter text ≡ Ok catalog
    → IsClearCatalog catalog
unfolding catalog_by
clear text catalog is =
    clear_by (items_of text) (statements as_filter no_draft (items_of text)) refl catalog is
    (catalogs_are_well_formed text catalog is)

pub texts_tell_catalogs : TextsTellCatalogs
texts_tell_catalogs text other_text one other is other_is e =
    catalogs_tell one other (clear text one is) (clear other_text other other_is) e

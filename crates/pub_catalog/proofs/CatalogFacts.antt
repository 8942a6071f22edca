-- A catalog is within its limits, carries tables that exist, and has proper names: what its fields keep. Of each of
-- these there is at most one proof.
use Rattle.std.proofs.Common.{◌≡◌, ℕ, List, [], ◌∷◌, All, length, map, refl, sym, ap, subst, arith}
use Rattle.std.specs.Prelude.{Option, Some, None}
use Rattle.std.proofs.Math.Logic.{∥∥₁_elim}
use Rattle.std.proofs.Props.{props}
use Rattle.std.proofs.lemmas.List.{length-map}
use mathlib.Core.HLevel.{Unit-prop}
use Rattle.filter_tree.specs.declared.table.Column.{Column}
use Rattle.filter_tree.specs.declared.table.Identity.{Identity}
use Rattle.filter_tree.specs.declared.table.Identity.TheVariants.{Default, Index, Full, Nothing}
use Rattle.filter_tree.specs.declared.table.Table.{Table}
use Rattle.filter_tree.specs.declared.table.UniqueIndex.{UniqueIndex}
use Rattle.pub_catalog.specs.declared.catalog.Catalog.{Catalog}
use Rattle.pub_catalog.specs.declared.catalog.Publication.{Publication}
use Rattle.pub_catalog.specs.declared.catalog.Subscription.{Subscription}
use Rattle.pub_catalog.specs.CatalogEntries.{FilterNamesWithin, IsKnownEntry, CarriesKnown, AllCarryKnown}
use Rattle.pub_catalog.specs.CatalogLimits.{IsIdentity, IsLimitedTable, IsLimited}
use Rattle.pub_catalog.specs.CatalogNames.{AreOwnNames, AreTaken, TakesKnown, IsNamedCatalog}
use Rattle.pub_catalog.specs.Catalogs.{EntryOf, PublicationOf}
use Rattle.filter_tree.specs.Expr.{Expr}
use Rattle.pub_catalog.specs.CatalogView.{publication_view, catalog_view}

IsIdentity-prop : (columns : List Column) (indexes : List UniqueIndex) (identity : Identity)
    → IsProp (IsIdentity columns indexes identity)
IsIdentity-prop columns indexes (Index number) = Prim.hlevel props
IsIdentity-prop columns indexes Default = Unit-prop {0}
IsIdentity-prop columns indexes Full = Unit-prop {0}
IsIdentity-prop columns indexes Nothing = Unit-prop {0}

IsLimitedTable-prop : (table : Table) → IsProp (IsLimitedTable table)
IsLimitedTable-prop table = Prim.hlevel (props, IsIdentity-prop)

each-prop : (tables : List Table) → IsProp (All IsLimitedTable tables)
each-prop tables = Prim.hlevel (props, IsLimitedTable-prop)

pub catalog_limited : (catalog : Catalog) → IsLimited (catalog_view catalog)
catalog_limited catalog = record {
  tables = catalog.few_tables;
  each_table = ∥∥₁_elim catalog.limited_tables (each-prop catalog.tables.items) (λ each. each);
  publications = omega (arith, length-map catalog.publications.items publication_view, catalog.few_publications);
  subscriptions = catalog.few_subscriptions;
}

-- ---- entries

FilterNamesWithin-prop : (count : ℕ) (filter : Option Expr) → IsProp (FilterNamesWithin count filter)
FilterNamesWithin-prop count None = Unit-prop {0}
FilterNamesWithin-prop count (Some filter) = Prim.hlevel props

IsKnownEntry-prop : (tables : List Table) (entry : EntryOf Expr) → IsProp (IsKnownEntry tables entry)
IsKnownEntry-prop tables entry = Prim.hlevel (props, FilterNamesWithin-prop)

all_carry-prop : (tables : List Table) (publications : List (PublicationOf Expr))
    → IsProp (All (CarriesKnown tables) publications)
all_carry-prop tables publications = Prim.hlevel (props, IsKnownEntry-prop)

pub catalog_entries_known : (catalog : Catalog) → AllCarryKnown (catalog_view catalog)
catalog_entries_known catalog =
    ∥∥₁_elim catalog.known_entries
    (all_carry-prop catalog.tables.items (map publication_view catalog.publications.items)) (λ known. known)

-- ---- names

AreOwnNames-prop : (names : List (List ℕ)) → IsProp (AreOwnNames names)
AreOwnNames-prop names = Prim.hlevel props

AreTaken-prop : (count : ℕ) (numbers : List ℕ) → IsProp (AreTaken count numbers)
AreTaken-prop count numbers = Prim.hlevel props

all_taken-prop : (count : ℕ) (subscriptions : List Subscription) → IsProp (All (TakesKnown count) subscriptions)
all_taken-prop count subscriptions = Prim.hlevel (props, AreTaken-prop)

-- publications as plain data have the same names
pub names_viewed : (publications : List Publication)
    → map (λ (p : PublicationOf Expr). p.name) (map publication_view publications)
    ≡ map (λ (p : Publication). p.name) publications
names_viewed [] = refl
names_viewed (publication ∷ publications) = ap (λ names. publication.name ∷ names) (names_viewed publications)

pub catalog_named : (catalog : Catalog) → IsNamedCatalog (catalog_view catalog)
catalog_named catalog =
    let publications = catalog.publications.items in
    record {
      publications = subst AreOwnNames (sym (names_viewed publications))
          (∥∥₁_elim catalog.named_publications (AreOwnNames-prop _) (λ own. own));
      subscriptions = ∥∥₁_elim catalog.named_subscriptions (AreOwnNames-prop _) (λ own. own);
      taken = subst (λ count. All (TakesKnown count) catalog.subscriptions.items)
          (sym (length-map publications publication_view))
          (∥∥₁_elim catalog.taken_publications (all_taken-prop (length publications) catalog.subscriptions.items)
          (λ taken. taken));
    }

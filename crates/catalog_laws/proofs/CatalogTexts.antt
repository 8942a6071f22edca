-- The text of a catalog tells the catalog.
use Rattle.std.proofs.Common.{◌≡◌, ℕ, false, List, [], ◌∷◌, ◌++◌, All, length, map, refl, sym, ap, subst, ◌∙◌, append-nil}
use Rattle.std.specs.List.{IsDistinct, flat_map}
use Rattle.std.specs.Str.{bytes_eq}
use Rattle.filter_tree.specs.Expr.{Expr}
use Rattle.filter_tree.specs.declared.table.Table.{Table}
use Rattle.pub_catalog.specs.CatalogEntries.{IsKnownEntry, CarriesKnown}
use Rattle.pub_catalog.specs.Catalogs.{PublicationOf, CatalogOf}
use Rattle.pub_catalog.specs.declared.catalog.Subscription.{Subscription}
use Rattle.pub_reader.specs.WellFormed.{same_name}
use Rattle.catalog_text.specs.CatalogText.{publication_text, subscription_text, catalog_text}
use Rattle.catalog_laws.proofs.UniqueTexts.{Tells, Any, has_byte, differ, list_tells}
use Rattle.catalog_laws.proofs.TableTexts.{relation, IsClear}
use Rattle.catalog_laws.proofs.EachTable.{IsAfterTables, tables_tell}
use Rattle.catalog_laws.proofs.EntryTexts.{entries_tell}
use Rattle.catalog_laws.proofs.PublicationTexts.{TakesFirst, publication_tells, subscription_tells}

abbrev IsEnd : List ℕ → Type 0
IsEnd text = text ≡ []

-- no publication comes next
abbrev HasNoMore : List ℕ → Type 0
HasNoMore text = has_byte 7 80 text ≡ false

same_catalog : (one other : CatalogOf Expr) → one.tables ≡ other.tables → one.publications ≡ other.publications
    → one.subscriptions ≡ other.subscriptions → one ≡ other
same_catalog one other e f g = λ i. record { tables = e i; publications = f i; subscriptions = g i }

-- ---- subscriptions

subscriptions_tell : (publications : List (PublicationOf Expr)) → IsDistinct bytes_eq (map (λ p. p.name) publications)
    → Tells (All (TakesFirst (length publications))) (flat_map (subscription_text publications)) IsEnd
unfolding subscription_text
subscriptions_tell publications own =
    list_tells (TakesFirst (length publications)) (subscription_text publications) Any IsEnd
    (subscription_tells publications own) (λ a x. tt) (λ x f. tt)
    (λ a x y p f e. differ 0 67 (subscription_text publications a ++ x) y refl (ap (has_byte 0 67) f) e)

no_publication : (publications : List (PublicationOf Expr)) (subscriptions : List Subscription)
    → HasNoMore (flat_map (subscription_text publications) subscriptions)
unfolding subscription_text
no_publication publications [] = refl
no_publication publications (subscription ∷ subscriptions) = refl

-- ---- publications

publications_tell : (tables : List Table) → IsDistinct same_name (map relation tables) → All IsClear tables
    → Tells (All (CarriesKnown tables)) (flat_map (publication_text tables)) HasNoMore
unfolding publication_text
publications_tell tables named clear =
    list_tells (CarriesKnown tables) (publication_text tables) Any HasNoMore
    (publication_tells tables (IsKnownEntry tables)
    (entries_tell tables named (λ n d low. (clear n d low).named)))
    (λ a x. tt) (λ x f. tt) (λ a x y p f e. differ 7 80 (publication_text tables a ++ x) y refl f e)

after_tables : (tables : List Table) (publications all : List (PublicationOf Expr))
    (subscriptions : List Subscription)
    → IsAfterTables (flat_map (publication_text tables) publications
    ++ flat_map (subscription_text all) subscriptions)
unfolding publication_text subscription_text
after_tables tables [] all [] = record { no_schema = refl; no_table = refl }
after_tables tables [] all (subscription ∷ subscriptions) = record { no_schema = refl; no_table = refl }
after_tables tables (publication ∷ publications) all subscriptions = record { no_schema = refl; no_table = refl }

-- ---- the catalog

-- names differ, and numbers are of tables, columns, indexes and publications
pub record IsClearCatalog (catalog : CatalogOf Expr) : Type 0 where
  pub named : IsDistinct same_name (map relation catalog.tables)
  pub tables : All IsClear catalog.tables
  pub entries : All (CarriesKnown catalog.tables) catalog.publications
  pub publications : IsDistinct bytes_eq (map (λ p. p.name) catalog.publications)
  pub taken : All (TakesFirst (length catalog.publications)) catalog.subscriptions

pub catalogs_tell : (one other : CatalogOf Expr) → IsClearCatalog one → IsClearCatalog other
    → catalog_text one ≡ catalog_text other → one ≡ other
unfolding catalog_text
catalogs_tell one other p q e =
    let subscriptions : CatalogOf Expr → List ℕ = λ catalog.
    flat_map (subscription_text catalog.publications) catalog.subscriptions in
    let publications : CatalogOf Expr → List ℕ = λ catalog.
    flat_map (publication_text catalog.tables) catalog.publications in
    let rest : CatalogOf Expr → List ℕ = λ catalog. publications catalog ++ subscriptions catalog in
    let table = tables_tell one.tables other.tables (rest one) (rest other) p.tables q.tables
    (after_tables one.tables one.publications one.publications one.subscriptions)
    (after_tables other.tables other.publications other.publications other.subscriptions) e in
    let back = sym table.0 in
    let publication = publications_tell one.tables p.named p.tables one.publications other.publications
    (subscriptions one) (subscriptions other) p.entries
    (subst (λ tables. All (CarriesKnown tables) other.publications) back q.entries)
    (no_publication one.publications one.subscriptions) (no_publication other.publications other.subscriptions)
    (subst (λ tables. rest one ≡ flat_map (publication_text tables) other.publications ++ subscriptions other) back
    table.1) in
    let again = sym publication.0 in
    let subscription = subscriptions_tell one.publications p.publications one.subscriptions other.subscriptions [] []
    p.taken (subst (λ list. All (TakesFirst (length list)) other.subscriptions) again q.taken) refl refl
    (append-nil (subscriptions one)
    ∙ subst (λ list. subscriptions one ≡ flat_map (subscription_text list) other.subscriptions) again publication.1
    ∙ sym (append-nil (flat_map (subscription_text one.publications) other.subscriptions))) in
    same_catalog one other table.0 publication.0 subscription.0

-- How publications and subscriptions are named, and that a subscription's publications exist: PostgreSQL 15, SQL
-- Commands, CREATE PUBLICATION and CREATE SUBSCRIPTION, and "SQL Syntax", 4.1.1 Identifiers and Key Words.
use Rattle.std.specs.Prelude.{ℕ, ◌<◌, List, All, length, map, nat_eq}
use Rattle.std.specs.List.{IsDistinct}
use Rattle.std.specs.Str.{bytes_eq}
use Rattle.pub_catalog.specs.declared.catalog.Subscription.{Subscription}
use Rattle.pub_catalog.specs.CatalogLimits.{IsPlainName}
use Rattle.pub_catalog.specs.Catalogs.{CatalogOf}

-- names of 1 to 63 bytes of UTF-8, none of which is zero, and no two of which are the same
pub record AreOwnNames (names : List (List ℕ)) : Type 0 where
  pub plain : All IsPlainName names
  pub differ : IsDistinct bytes_eq names

-- numbers of publications, of which there are `count`: at least one number, and none twice
pub record AreTaken (count : ℕ) (numbers : List ℕ) : Type 0 where
  pub some : 0 < length numbers
  pub once : IsDistinct nat_eq numbers
  pub known : All (λ number. number < count) numbers

abbrev pub TakesKnown : ℕ → Subscription → Type 0
TakesKnown count subscription = AreTaken count subscription.publications

-- each publication has its own name, and so does each subscription, which names some of the publications
pub record IsNamedCatalog {S : Type 0} (catalog : CatalogOf S) : Type 0 where
  pub publications : AreOwnNames (map (λ p. p.name) catalog.publications)
  pub subscriptions : AreOwnNames (map (λ s. s.name) catalog.subscriptions)
  pub taken : All (TakesKnown (length catalog.publications)) catalog.subscriptions

-- Names in a catalog while it is being read: PostgreSQL 15, SQL Commands, CREATE TABLE, CREATE PUBLICATION and CREATE
-- SUBSCRIPTION, and "SQL Syntax", 4.1.1 Identifiers and Key Words.
use Rattle.std.specs.Prelude.{All, length, map}
use Rattle.pub_catalog.specs.CatalogLimits.{IsNamed}
use Rattle.pub_catalog.specs.CatalogNames.{AreOwnNames, TakesKnown}
use Rattle.pub_reader.specs.Drafts.{DraftOf}

-- tables, publications and subscriptions have names like those of a catalog
pub record IsNamedDraft {S : Type 0} (draft : DraftOf S) : Type 0 where
  pub tables : All IsNamed draft.tables
  pub publications : AreOwnNames (map (λ p. p.name) draft.publications)
  pub subscriptions : AreOwnNames (map (λ s. s.name) draft.subscriptions)
  pub taken : All (TakesKnown (length draft.publications)) draft.subscriptions

-- The catalog of a sharding that was accepted is within its limits, and has proper names, as each catalog does.
use Rattle.pub_catalog.specs.CatalogLimits.{IsLimited}
use Rattle.pub_catalog.specs.CatalogNames.{IsNamedCatalog}
use Rattle.pub_catalog.proofs.CatalogFacts.{catalog_limited, catalog_named}
use Rattle.shard_checker.specs.CheckedView.{checked_view}
use Rattle.shard_checker.specs.declared.checked.Checked.{Checked}

pub checked_limited : (checked : Checked) → IsLimited (checked_view checked).catalog
checked_limited checked = catalog_limited checked.catalog

pub checked_named : (checked : Checked) → IsNamedCatalog (checked_view checked).catalog
checked_named checked = catalog_named checked.catalog

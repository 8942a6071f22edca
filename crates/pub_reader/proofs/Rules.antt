-- What the proofs of functions use, under one name for each.
use Rattle.pub_catalog.proofs.CatalogFacts.{catalog_limited, catalog_entries_known, catalog_named}
use Rattle.pub_reader.proofs.CarryingCatalogs.{means_as_written}
use Rattle.sql_reader.proofs.Ahead.{rest_of_some_is_fewer}
use Rattle.sql_reader.proofs.RepetitionLemmas.{chains}

pub ruleset fewer_are_left = (rest_of_some_is_fewer)

pub ruleset chaining = (chains)

pub ruleset facts_of_catalogs = (means_as_written, catalog_limited, catalog_entries_known, catalog_named)

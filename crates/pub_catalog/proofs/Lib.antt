pub mod CatalogFacts
pub mod Positions

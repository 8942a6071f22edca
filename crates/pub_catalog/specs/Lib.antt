pub mod CatalogEntries
pub mod CatalogLimits
pub mod CatalogNames
pub mod CatalogView
pub mod Catalogs
pub mod IndexIdentities
pub mod PublicationView

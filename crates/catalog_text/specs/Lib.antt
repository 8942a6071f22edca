pub mod CatalogText
pub mod FilterText
pub mod Waiting

pub mod Owners
pub mod Routers

pub mod Doubling
pub mod Joins
pub mod Numbers
pub mod Pieces
pub mod Steps

pub mod BitLemmas
pub mod Crossing
pub mod OwnerLemmas
pub mod RouterLemmas
pub mod SparedLemmas

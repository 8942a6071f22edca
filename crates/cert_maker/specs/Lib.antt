pub mod Answers
pub mod Owners

pub mod CommentLoops
pub mod QuoteLoops
pub mod NumberLoops
mod NameTexts
pub mod PlainNames
pub mod Ends
pub mod Fronts
pub mod Lexing
pub mod Cuts
pub mod SpelledTokens

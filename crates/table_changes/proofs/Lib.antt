pub mod AlwaysLemmas
pub mod ChangeLemmas
pub mod CommandListLemmas
pub mod Rules
pub mod ShowingLemmas
pub mod TableLemmas

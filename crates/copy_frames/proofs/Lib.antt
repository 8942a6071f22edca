pub mod ContentLemmas
pub mod CutLemmas
pub mod FrontLemmas
pub mod HistoryLemmas
pub mod InboxLemmas
pub mod PieceLemmas
pub mod WholeLemmas

pub mod JoiningLemmas
pub mod NumberLemmas
pub mod PartLemmas
pub mod PassingLemmas
pub mod PlanLemmas
pub mod Rules
pub mod SettingLemmas

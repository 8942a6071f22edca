pub mod Answers
pub mod Givings
pub mod Limits
pub mod Simulation
pub mod StepActions
pub mod Steps
pub mod Views
pub mod WorldSteps

pub mod ChangeSteps
pub mod PageSteps
pub mod SelectSteps
pub mod ShownLemmas
pub mod Unchanged
pub mod RuleLemmas
pub mod Nested

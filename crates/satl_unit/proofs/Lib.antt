pub mod ConditionsLemmas
pub mod FunctionsLemmas

mod CompletenessLemmas
mod PrintingLemmas
pub mod RunLemmas
pub mod ServingLemmas
mod TellerLemmas

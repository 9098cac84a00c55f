mod AnsweringLemmas
mod BridgeLemmas
mod CompletenessLemmas
mod ItemsLemmas
mod OpeningLemmas
mod ServingLemmas
mod WireLemmas

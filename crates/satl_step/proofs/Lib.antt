pub mod EventLemmas
pub mod LoopLemmas
pub mod LostLemmas
pub mod RunLemmas
pub mod ServingLemmas
pub mod TallyLemmas
pub mod TellingLemmas

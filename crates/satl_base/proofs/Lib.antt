pub mod BlocksLemmas
pub mod Booleans
pub mod CellsLemmas
pub mod ChainLemmas
pub mod FieldsLemmas
pub mod ListsLemmas
pub mod LossesLemmas
pub mod MovesLemmas
pub mod OutcomeLemmas
pub mod PlacesLemmas
mod SequenceLemmas

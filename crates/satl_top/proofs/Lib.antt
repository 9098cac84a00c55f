mod BridgingLemmas
mod FleetLemmas
pub mod LoadLemmas
pub mod RequestLemmas
pub mod StatusLemmas

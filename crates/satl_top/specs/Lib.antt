pub mod Bridging
pub mod Faults
pub mod Fleet
pub mod Laws
pub mod Auditing
pub mod Load
pub mod Top

pub mod Conditions
pub mod Flags
pub mod Functions

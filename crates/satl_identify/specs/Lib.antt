pub mod Refusals
pub mod Data

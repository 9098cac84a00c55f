pub mod Trims
pub mod Commands
pub mod Addresses

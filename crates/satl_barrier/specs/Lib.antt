pub mod Commands
pub mod Finishing
pub mod Flushing
pub mod Leaving
pub mod Settings

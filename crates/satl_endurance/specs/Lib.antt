pub mod Endurance
pub mod Flushed

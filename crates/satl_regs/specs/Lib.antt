pub mod Commands
pub mod Effects
pub mod Fields
pub mod QueuedCommands
pub mod Sectors
pub mod Spelling
pub mod Trim

pub mod Bench
pub mod Queue
pub mod Rules
pub mod State

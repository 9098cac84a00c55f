pub mod Causes
pub mod Known
pub mod Memory
pub mod Streams

pub mod Blocks
pub mod Requests
pub mod Steps
pub mod WholeInput

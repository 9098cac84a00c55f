pub mod Fields
pub mod Transfers
pub mod Reading
pub mod Status

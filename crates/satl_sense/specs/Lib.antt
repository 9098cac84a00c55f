pub mod Descriptor
pub mod Fixed
pub mod Fields
pub mod Reading

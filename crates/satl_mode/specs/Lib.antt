pub mod ModePages
pub mod Descriptors
pub mod ModeData
pub mod Changes
pub mod SelectList
pub mod Shown

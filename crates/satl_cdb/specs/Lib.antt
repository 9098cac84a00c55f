pub mod BlockCommands
pub mod Laws
pub mod PrimaryCommands
pub mod Refusals
pub mod Rows
pub mod Spelling
pub mod Table
pub mod Unmap

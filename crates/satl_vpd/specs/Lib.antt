pub mod Texts
pub mod Standard
pub mod Vital
pub mod Capacity
pub mod Luns

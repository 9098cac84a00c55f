pub mod Coming
pub mod Generated
pub mod Laws

pub mod Events
pub mod Laws
pub mod Loop
pub mod Runs
pub mod Serving
pub mod Telling

pub mod Completeness
pub mod Forms
pub mod Growing
pub mod Headline
pub mod Moments
pub mod Runs
pub mod Stopping
pub mod Tellers

pub mod DescriptorSteps
pub mod Limits
pub mod ReadBack
pub mod Texts

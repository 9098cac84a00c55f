pub mod Going
pub mod NotingLemmas
pub mod OneAnswer
pub mod RefusedInputs
pub mod ReadingLemmas
pub mod Stopping

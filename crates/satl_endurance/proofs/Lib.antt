pub mod Behind
pub mod Enduring
pub mod FlushAnswers
pub mod FlushedRuns
pub mod Flushing
pub mod Stepping

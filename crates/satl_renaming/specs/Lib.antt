pub mod Retried
pub mod UsedAgain

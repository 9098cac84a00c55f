pub mod DigitLemmas
pub mod LineLemmas
pub mod SumLemmas
pub mod TotalsLemmas

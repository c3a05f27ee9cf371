pub mod TableLemmas
pub mod Counts

pub mod SearchLemmas
pub mod TreeLemmas

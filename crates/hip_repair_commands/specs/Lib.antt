pub mod AskedRuns
pub mod ManyLaws
pub mod Many
pub mod ManyRunLaws
pub mod ManyRuns
pub mod Thin

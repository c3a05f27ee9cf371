pub mod Laws
pub mod LoadedTraces
pub mod Notes
pub mod ResultLaws
pub mod Results
pub mod Runs
pub mod StageLaws

pub mod Headers
pub mod Laws
pub mod Misfits
pub mod TraceTexts
pub mod Traces

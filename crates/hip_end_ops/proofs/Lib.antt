pub mod CaseOrder
pub mod EdgeOps
pub mod EndOps

pub mod link
pub mod row

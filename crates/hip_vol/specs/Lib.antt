pub mod Bounds
pub mod Closed
pub mod Rules
pub mod LowStores
pub mod Numbered
pub mod Tables
pub mod Gathered
pub mod ScopeTables

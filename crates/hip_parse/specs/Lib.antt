pub mod Left
pub mod Items
pub mod Lengths

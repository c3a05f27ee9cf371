pub mod Twins
pub mod Functions
pub mod Clones
pub mod CloneNumbers
pub mod Lookup
pub mod Origins
pub mod Blocks

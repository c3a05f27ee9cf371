pub mod Memory
pub mod Areas
pub mod PageTable
pub mod Recents
pub mod Pages
pub mod Rams
pub mod Laws

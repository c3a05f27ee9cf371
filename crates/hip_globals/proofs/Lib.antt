pub mod AddressLemmas
pub mod AddressLists
pub mod ByteLists
pub mod ConstantParts
pub mod HeldLemmas
pub mod InitialLemmas
pub mod Lists

pub mod Addresses
pub mod AddressesSeen
pub mod Constants
pub mod Held
pub mod Initial
pub mod InitialSeen
pub mod Laws
pub mod Values

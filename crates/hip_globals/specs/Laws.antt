-- Laws of the definitions.
pub mod AddressLaws
pub mod BaseLaws

pub mod Call
pub mod CallEnd
pub mod Laws
pub mod Repair
pub mod Checks
pub mod Headline
pub mod Crashes
pub mod Agreement

pub mod Digits
pub mod Consts
pub mod Loops
pub mod Some
pub mod Causes

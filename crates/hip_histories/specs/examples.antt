pub mod WrongRepairs

pub mod Meaning
pub mod Lawful
pub mod Limits
pub mod Uniform

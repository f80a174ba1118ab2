pub mod Cancelling
pub mod Flags
pub mod Points
pub mod Wrapping

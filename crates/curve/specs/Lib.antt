pub mod Listed
pub mod Made
pub mod Positions

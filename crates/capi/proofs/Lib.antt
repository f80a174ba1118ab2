pub mod BothWays
pub mod Fronts
pub mod Promised

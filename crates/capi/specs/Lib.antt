pub mod Crossings
pub mod Hierarchies
pub mod Jobs
pub mod Outcomes
pub mod Records
pub mod Schemes
pub mod Stops

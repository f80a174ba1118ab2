pub mod Places
pub mod Reading
pub mod Gathering
pub mod HalfSteps
pub mod Travel
pub mod Calls
pub mod IntegerLifting
pub mod Splines

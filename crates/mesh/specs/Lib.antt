pub mod Lowest
pub mod Shape
pub mod Rules
pub mod Records
pub mod Reading
pub mod Laws

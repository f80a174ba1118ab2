pub mod Fractions
pub mod Rounding
pub mod Readings
pub mod Equations
pub mod PointAmounts
pub mod MarkAmounts
pub mod PairAmounts

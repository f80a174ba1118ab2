pub mod Groups
pub mod MarkSums
pub mod PairSums
pub mod PointSums
pub mod Residues

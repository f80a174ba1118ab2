pub mod Level
pub mod Finer
pub mod Surfaces
pub mod Curves
pub mod Incidence
pub mod Sound
pub mod Refined

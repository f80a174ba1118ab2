pub mod Every
pub mod Certain

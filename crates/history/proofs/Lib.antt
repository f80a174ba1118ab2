pub mod Making
pub mod Following
pub mod Serving
pub mod Agreeing
pub mod Blanking
pub mod Blinding
pub mod Lending
pub mod Running

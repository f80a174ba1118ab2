pub mod Record
pub mod Said

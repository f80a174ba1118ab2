pub mod Printed
pub mod Table

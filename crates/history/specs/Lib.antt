pub mod Answers
pub mod Rows
pub mod Histories
pub mod Runs
pub mod Reach
pub mod Promise
pub mod Memory

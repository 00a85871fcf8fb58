pub mod Steps
pub mod Calls
pub mod Theorem

pub mod Tree
pub mod Fault
pub mod Walk
pub mod Examples

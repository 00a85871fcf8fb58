pub mod Modes
pub mod Rows
pub mod Steps

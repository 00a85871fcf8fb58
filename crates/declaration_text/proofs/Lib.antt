pub mod Text
pub mod Steps
pub mod Whole

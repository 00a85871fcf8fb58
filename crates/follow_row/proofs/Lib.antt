pub mod Rows
pub mod Keeps

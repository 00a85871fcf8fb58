pub mod Rows
pub mod Reaching
pub mod Peel
pub mod Skips
pub mod Counting
pub mod Words

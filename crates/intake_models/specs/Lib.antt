pub mod Putting
pub mod Filling

pub mod Naming
pub mod Used

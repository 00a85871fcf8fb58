pub mod Places
pub mod Set
pub mod Promise
pub mod Names
pub mod Rows
pub mod Tests

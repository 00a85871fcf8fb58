mod Digits
pub mod Laws
pub mod Count
pub mod Rows
pub mod Tests
pub mod Turns

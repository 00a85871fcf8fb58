pub mod Field
pub mod Book
pub mod Layout
pub mod Bytes
pub mod Access
pub mod Stops
pub mod Used
pub mod Taken

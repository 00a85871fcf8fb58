pub mod Table
pub mod Classes
pub mod Bytes
pub mod Words

pub mod Agree
pub mod Call
pub mod Short

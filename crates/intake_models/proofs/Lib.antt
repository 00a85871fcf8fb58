pub mod Put
pub mod Fill
pub mod Entries
pub mod Theorem

pub mod Built
pub mod Theorem

pub mod Answers
pub mod Theorem

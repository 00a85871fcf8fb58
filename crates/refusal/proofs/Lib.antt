pub mod Laws
pub mod Answers
pub mod Checks
pub mod Decisions

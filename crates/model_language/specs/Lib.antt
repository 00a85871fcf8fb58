pub mod Word
pub mod Reach
pub mod Step

pub mod Below
pub mod Reach
pub mod Level
pub mod Rank
pub mod Chain

pub mod Shows
pub mod Walk
pub mod Shown
pub mod Reach
pub mod Include
pub mod Theorem

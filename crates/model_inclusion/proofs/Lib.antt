pub mod Search
pub mod Pass
pub mod Over
pub mod Example

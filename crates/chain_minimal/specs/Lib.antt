pub mod Tight
pub mod Arranged
pub mod Placed

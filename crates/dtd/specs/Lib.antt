pub mod Input
pub mod Ended

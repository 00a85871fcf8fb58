pub mod Turning
pub mod Ends

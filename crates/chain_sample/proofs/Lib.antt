pub mod Shown
pub mod Models

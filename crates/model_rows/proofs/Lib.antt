pub mod Modes
pub mod Factors

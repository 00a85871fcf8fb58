pub mod Samples
pub mod Inferring
pub mod Writing
pub mod NoBetterModel

pub mod Inference
pub mod Writing

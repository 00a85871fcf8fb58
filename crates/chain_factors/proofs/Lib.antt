pub mod Sets
pub mod Factors

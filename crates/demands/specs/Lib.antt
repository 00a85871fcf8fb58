pub mod Conditions
pub mod Results

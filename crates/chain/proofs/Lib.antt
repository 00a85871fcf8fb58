pub mod Sets
pub mod Stage

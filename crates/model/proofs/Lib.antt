pub mod Turns
pub mod Words
pub mod ChainLaw
pub mod Acceptance
pub mod Empty
pub mod Building
pub mod ModelLaw

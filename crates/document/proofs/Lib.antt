pub mod Forward
pub mod Backward
pub mod Validity
pub mod Faults
pub mod Unique
pub mod Beginning
pub mod Theorem
pub mod Examples

pub mod Inclusion
pub mod Search
pub mod Over
pub mod Spans

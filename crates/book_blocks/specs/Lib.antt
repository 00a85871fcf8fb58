pub mod Tables
pub mod Gathers

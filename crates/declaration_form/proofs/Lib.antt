pub mod Begins
pub mod Tokens
pub mod Steps
pub mod Places

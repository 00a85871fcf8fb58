pub mod Refused
pub mod Output
pub mod Printed

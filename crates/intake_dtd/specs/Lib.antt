pub mod Dtd

pub mod Refusals
pub mod Texts
pub mod Demands
pub mod SoFar

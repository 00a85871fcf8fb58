pub mod Signs
pub mod Pieces
pub mod ByKind

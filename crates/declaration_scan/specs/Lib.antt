pub mod Kind
pub mod Piece

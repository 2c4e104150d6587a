pub mod Pieces
pub mod Usual

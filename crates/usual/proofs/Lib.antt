pub mod Pieces
pub mod UsualHeads
pub mod UsualMoves

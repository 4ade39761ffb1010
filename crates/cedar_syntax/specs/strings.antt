pub mod EscapeFaults
pub mod Pattern
pub mod Piece
pub mod PieceAhead
pub mod UnescapeFailure

pub mod Fetches
pub mod Pieces

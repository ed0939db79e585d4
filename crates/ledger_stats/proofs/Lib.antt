mod Pieces
mod Tallying

pub mod Ends
pub mod Puzzles

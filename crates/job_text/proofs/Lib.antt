pub mod Cuts
pub mod Numbers
pub mod Puzzles
pub mod SoFar
pub mod Steps
pub mod FewBytes
pub mod Grids
pub mod Rows

pub mod Sums
mod Counting
pub mod Pieces
mod Workers
mod Ranks
pub mod Weights
pub mod Trees
pub mod First
mod Answered
mod Held
mod Whole
pub mod Joining
mod Worked

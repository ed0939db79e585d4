pub mod Aims
pub mod Calling
pub mod Causes
pub mod Commons
pub mod Deeds
pub mod Freed
pub mod Going
pub mod Paths
pub mod Seen
pub mod Shifts
pub mod Tallies
pub mod Whole
mod Worked

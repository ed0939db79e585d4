pub mod Joining
pub mod Least
pub mod Ranks

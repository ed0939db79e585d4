pub mod Jobs
pub mod Solved

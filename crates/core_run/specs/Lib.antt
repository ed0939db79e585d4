pub mod Runs
pub mod World

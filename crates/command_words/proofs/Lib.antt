pub mod Holding
mod Rows
pub mod Saying

pub mod Jobs
pub mod Report
pub mod Summary
pub mod Whole
pub mod Pairs
pub mod inside

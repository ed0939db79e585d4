pub mod Ends
pub mod Faults
pub mod Input
pub mod inside
pub mod Verdicts

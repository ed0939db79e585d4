pub mod Waiting
pub mod Spending
pub mod Worths
pub mod Together
pub mod Heard
mod Worked

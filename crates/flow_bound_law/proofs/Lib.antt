pub mod Rules
pub mod Spending
pub mod Together
pub mod Heard
mod Worked

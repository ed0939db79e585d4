pub mod Ending
pub mod Checked
pub mod Drawn
pub mod Flowed
pub mod Made
pub mod Solved

pub mod Ends
pub mod inside

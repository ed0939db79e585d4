-- For the crate itself: what is left to read and what was read, and what the output is made of.
pub mod Left
pub mod Read
pub mod Told
pub mod Users

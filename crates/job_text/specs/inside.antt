-- For the crate itself. What is left of an input, and what was read of it.
pub mod Left
pub mod Read

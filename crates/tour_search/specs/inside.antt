-- For the crate itself: what is left of an input, and what its parts are.
pub mod Left
pub mod Parts

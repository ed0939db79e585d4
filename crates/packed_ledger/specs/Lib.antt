pub mod inside
pub mod Sizes

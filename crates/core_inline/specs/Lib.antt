pub mod Inline
pub mod Left
pub mod inside

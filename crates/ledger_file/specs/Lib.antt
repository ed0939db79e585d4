pub mod Fields
pub mod inside
pub mod Lines

pub mod Lines
pub mod Words
pub mod Kinds
pub mod Jobs
pub mod inside

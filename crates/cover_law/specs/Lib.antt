pub mod Begun
pub mod Grants

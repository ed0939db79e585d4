-- What private contracts cite.
pub mod Begun
pub mod Fields
pub mod Pairs

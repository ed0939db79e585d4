pub mod Top
pub mod Words

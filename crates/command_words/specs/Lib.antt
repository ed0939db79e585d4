pub mod inside
pub mod Options
pub mod Ranges
pub mod Said

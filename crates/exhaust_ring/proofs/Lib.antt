mod Named
pub mod Rows

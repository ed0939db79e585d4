pub mod Grid
pub mod Pairs
pub mod Text
pub mod Tree
pub mod Solutions

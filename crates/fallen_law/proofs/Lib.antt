pub mod Expecting
pub mod Fallen
pub mod Nexts

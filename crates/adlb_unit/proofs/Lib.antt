pub mod Permitted
pub mod Same

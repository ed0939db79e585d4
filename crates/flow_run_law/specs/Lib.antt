pub mod Desk
pub mod Learned
pub mod Puts
pub mod Run
pub mod Units

pub mod Pushing
pub mod Reserving
pub mod Storing

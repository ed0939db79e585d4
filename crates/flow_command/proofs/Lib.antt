pub mod Ended
pub mod Joining
pub mod Programs
pub mod Starting
